-- A word or a group by its first token, and the symbol of a word.
--     first_token                 what the first token is, and what stands behind it
--     token_some                  a token is there where a text has not ended
--     word_kind                   a word's kind
--     class_own                   the number of a class that is named by its number
--     found_class_lem, found_name     the class of a word that was looked for, and its symbol
-- Assumes nothing.
use Rattle.std.specs.Prelude.{Option, Some, None}
use mathlib.Core.Path.{◌≡◌, refl, sym, ◌∙◌}
use mathlib.Core.Bool.{true, false≢true}
use mathlib.Core.Logic.{⊎_elim}
use mathlib.Core.List.{List, ◌∷◌}
use Prim.Native.Nat.{ℕ}
use lib.ListN.{drop}
use Rattle.eqn_tokens.specs.Tokens.{Token, tokens_in}
use Rattle.eqn_names.specs.Names.{Name, named, is_word, Records}
use Rattle.eqn_tokens.specs.declared.tokens.TokenKind.{TokenKind}
use Rattle.eqn_tokens.specs.declared.tokens.TokenKind.TheVariants.{Word, Keyword as Joining, Open, Close, Other, End}
use Rattle.eqn_tokens.specs.declared.tokens.Token as code
use Rattle.eqn_tokens.specs.Values.{kind_as, TokenAt}
use Rattle.eqn_tokens.specs.PlacesLaws.{proper, proper_then, bytes_of}
use Rattle.eqn_names.specs.declared.Symbol.{Symbol}
use Rattle.eqn_names.specs.Values.{found_as}
use Rattle.formula.specs.Heads.{class_number}
use Rattle.eqn_meaning.specs.Meaning.{or_no_name, class_of}
use Rattle.eqn_read.specs.Values.{found_family, found_code}
use Rattle.eqn_read.proofs.MeantLaws.{NotEmpty}
use Rattle.eqn_names.proofs.NamesLaws.{records_good, named_is}
use Rattle.eqn_meaning.specs.MeaningLaws.{class_own}

-- ---- the first token

module _ {s : List ℕ} {t : code.Token} (first : TokenAt s 0 t) where
  pub first_token : {u : Token} {us : List Token} → u ∷ us ≡ tokens_in s → (kind_as t.kind (bytes_of s t) ≡ u) × (tokens_in (drop t.end s) ≡ us)
  first_token is =
      let all = sym first.tokens ∙ sym is in
      let whole = (proper_then t.kind (bytes_of s t) (tokens_in (drop t.end s)) all).then (bytes_of s t) (tokens_in (drop t.end s)) in
      (cc, cc)

-- there is one
pub token_some : {s : List ℕ} {at : ℕ} {t : code.Token} → TokenAt s at t → (t.kind ≡ End → ⊥) → NotEmpty (tokens_in (drop at s))
token_some {s} {at} {t} there no_end =
    ⊎_elim (λ is. absurd (no_end is)) (λ p. (_, _, there.tokens ∙ p.then (bytes_of s t) (tokens_in (drop t.end s)))) (proper t.kind)

pub word_kind : (k : TokenKind) (w : List ℕ) → is_word (kind_as k w) ≡ true → k ≡ Word
word_kind Word w e = refl
word_kind (Joining k) w e = absurd (false≢true e)
word_kind Open w e = absurd (false≢true e)
word_kind Close w e = absurd (false≢true e)
word_kind Other w e = absurd (false≢true e)
word_kind End w e = absurd (false≢true e)

-- ---- the symbol of a word

abbrev pub found_class : Option Symbol → ℕ
found_class (Some symbol) = symbol.class
found_class None = 0

pub found_class_lem : {s : List ℕ} {ns : List Name} → Records s ns → (w : List ℕ) (found : Option Symbol) → found_as w found ≡ named ns w →
    found_class found ≡ class_number (class_of (or_no_name (named ns w)).class)
found_class_lem records w (Some symbol) is = rw (← is) (sym (class_own symbol.class (records_good records (named_is _ w (sym is)).member).class))
found_class_lem records w None is = rw (← is)

pub found_name : (ns : List Name) (w : List ℕ) (found : Option Symbol) → found_as w found ≡ named ns w →
    let m = or_no_name (named ns w) in (found_family found ≡ m.family) × (found_code found ≡ m.code)
found_name ns w (Some symbol) is = rw (← is) (refl, refl)
found_name ns w None is = rw (← is) (refl, refl)
