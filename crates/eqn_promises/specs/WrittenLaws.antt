-- Laws of typed text that is written token by token.
--     CanStand                     a token that a text of the grammar may have: no stray byte, and a word that is none of the keywords
--     keyword_word                 such a word is a word
--     word_then                    a word before what does not go on with it
--     token_then_lem                   the same for a token that can stand
--     tabled_stands                the names of a good table can stand
-- Assumes nothing.
use Rattle.std.specs.Prelude.{◌≡◌, refl, true, false, List, [], ◌∷◌, ◌++◌, ℕ, suc, ◌≤◌, length}
use Rattle.std.proofs.Common.{ap, ◌∙◌, arith}
use Rattle.std.proofs.lemmas.Bool.{false≢true, not-false}
use Rattle.std.proofs.Math.Seq.{take-append_seam, drop-append_seam}
use Rattle.laws.specs.Truths.{both_true}
use Rattle.eqn_tokens.specs.Bytes.{is_word_byte, all_word_bytes, same}
use Rattle.eqn_tokens.specs.Tokens.{Token, word, keyword, opening, closing, other, sub_bytes, sup_bytes, over_bytes, from_bytes, to_bytes, keyword_of, token_bytes, run_length, mark_of, tokens_in}
use Rattle.eqn_tokens.specs.TokensLaws.{keyword_bytes_lem, begins_word, run_none, tokens_skip, tokens_word, tokens_mark}
use Rattle.eqn_names.specs.Names.{Name, is_word, is_keyword}
use Rattle.eqn_names.proofs.NamesLaws.{Tabled}
use Rattle.eqn_tokens.specs.declared.tokens.Keyword.TheVariants.{Sub, Sup, Over, From, To}

pub record WordCanStand (w : List ℕ) : Type 0 where
  pub least : 1 ≤ length w
  pub words : all_word_bytes w ≡ true
  pub no_keyword : is_keyword w ≡ false

abbrev pub CanStand : Token → Type 0
CanStand (word w) = WordCanStand w
CanStand (keyword k) = Unit
CanStand opening = Unit
CanStand closing = Unit
CanStand (other b) = ⊥

-- ---- words

run_all : (w s : List ℕ) → all_word_bytes w ≡ true → begins_word s ≡ false → run_length (w ++ s) ≡ length w
unfolding all_word_bytes run_length
run_all [] s t e = run_none s e
run_all (b ∷ w) s t e = let both = both_true {p = is_word_byte b} t in rw both.0 (ap suc (run_all w s both.1 e))

pub word_then : (w s : List ℕ) → 1 ≤ length w → all_word_bytes w ≡ true → begins_word s ≡ false → tokens_in (w ++ s) ≡ keyword_of w ∷ tokens_in s
unfolding all_word_bytes
word_then [] s l t e = absurd (omega arith)
word_then (b ∷ w) s l t e =
    let both = both_true {p = is_word_byte b} t in
    tokens_word b (w ++ s) both.0
    ∙ rw (run_all w s both.1 e, take-append_seam w s, tokens_skip (length w) (w ++ s), drop-append_seam w s)

-- ---- tokens

word_is : (t : Token) → is_word t ≡ true → t ≡ word (token_bytes t)
unfolding token_bytes
word_is (word w) e = refl
word_is (keyword k) e = absurd (false≢true e)
word_is opening e = absurd (false≢true e)
word_is closing e = absurd (false≢true e)
word_is (other b) e = absurd (false≢true e)

pub keyword_word : (w : List ℕ) → is_keyword w ≡ false → keyword_of w ≡ word w
keyword_word w e = word_is (keyword_of w) (not-false (is_word (keyword_of w)) e) ∙ ap word (keyword_bytes_lem w)

pub token_then_lem : (t : Token) (s : List ℕ) → CanStand t → begins_word s ≡ false → tokens_in (token_bytes t ++ s) ≡ t ∷ tokens_in s
unfolding token_bytes keyword_of same all_word_bytes mark_of
token_then_lem (word w) s c e = word_then w s c.least c.words e ∙ ap (λ (t : Token). t ∷ tokens_in s) (keyword_word w c.no_keyword)
token_then_lem (keyword Sub) s c e = word_then sub_bytes s (omega arith) refl e
token_then_lem (keyword Sup) s c e = word_then sup_bytes s (omega arith) refl e
token_then_lem (keyword Over) s c e = word_then over_bytes s (omega arith) refl e
token_then_lem (keyword From) s c e = word_then from_bytes s (omega arith) refl e
token_then_lem (keyword To) s c e = word_then to_bytes s (omega arith) refl e
token_then_lem opening s c e = tokens_mark 123 s refl refl
token_then_lem closing s c e = tokens_mark 125 s refl refl
token_then_lem (other b) s c e = absurd c

pub tabled_stands : {ns : List Name} {m : Name} → Tabled ns m → WordCanStand m.bytes
tabled_stands t = record { least = t.good.least; words = t.good.words; no_keyword = t.no_keyword }
