-- The reading of the rest of a text, behind the tokens that a pass has gone by.
--     Reads                                  a reading that the right answer and its level come of
--     reads_begun, reads_next, reads_stuck, reads_end     its start; a token more; a token that it cannot go on with; the end
-- Assumes nothing.
use mathlib.Core.Path.{◌≡◌, refl, sym, ap, ◌∙◌}
use mathlib.Core.List.{List, [], ◌∷◌}
use mathlib.Core.Option.{none, some}
use Prim.Native.Nat.{ℕ, ◌+◌}
use native.Mathlib.Nat.{zero-add}
use native.Mathlib.Numerals.{add-one}
use lib.ListN.{length, drop}
use Rattle.eqn_tokens.specs.Tokens.{Token, tokens_in, place_in}
use Rattle.eqn_tokens.specs.declared.tokens.Token as code
use Rattle.eqn_tokens.specs.Values.{TokenAt}
use Rattle.eqn_grammar.specs.Parsing.{Reading, ended, read, begun, Parsed, whole, stuck, one_later, at_end, parse_then, parse_from, parse}
use Rattle.std.specs.Prelude.{Ok}
use Rattle.eqn_check.specs.Values.{Tested, stuck_at}
use Rattle.eqn_check.specs.Values.{tested_as}
use Rattle.eqn_check.specs.Windows.{right_answer, level_from, fault_level}

-- what is answered of a text by what the reading from a place on comes to
abbrev pub tested_from : ℕ → List ℕ → Parsed → Tested
tested_from at s (whole r) = Ok tt
tested_from at s (stuck n) = stuck_at (at + place_in n (drop at s))

pub record Reads (s : List ℕ) (at : ℕ) (st : Reading) : Type 0 where
  pub answer : right_answer s ≡ tested_from at s (parse_from st (tokens_in (drop at s)))
  pub level : fault_level s ≡ level_from st (tokens_in (drop at s))

pub reads_begun : (s : List ℕ) → Reads s 0 begun
unfolding parse
reads_begun s = record { answer = go (parse_from begun (tokens_in s)); level = refl }
  where
    go : (p : Parsed) → tested_as s p ≡ tested_from 0 s p
    go (whole r) = refl
    go (stuck n) = ap stuck_at (sym (zero-add (place_in n s)))

module _ {s : List ℕ} {at : ℕ} {st : Reading} {t : code.Token} (reads : Reads s at st) (found : TokenAt s at t) where
  later : (p : Parsed) → tested_from at s (one_later p) ≡ tested_from t.end s p
  later (whole r) = refl
  later (stuck n) = ap stuck_at (rw (← add-one n) (found.places n))

  pub reads_next : (next : Token) {st' : Reading} → tokens_in (drop at s) ≡ next ∷ tokens_in (drop t.end s) → read st next ≡ some st' → Reads s t.end st'
  unfolding parse_from parse_then level_from
  reads_next next {st'} tokens is =
      record {
        answer = reads.answer ∙ rw (tokens, is) (later (parse_from st' (tokens_in (drop t.end s))));
        level = reads.level ∙ rw (tokens, is) refl;
      }

  pub reads_stuck : (next : Token) → tokens_in (drop at s) ≡ next ∷ tokens_in (drop t.end s) → read st next ≡ none →
      (right_answer s ≡ stuck_at t.start) × (fault_level s ≡ length st.around)
  unfolding parse_from parse_then level_from
  reads_stuck next tokens is = (reads.answer ∙ rw (tokens, is) (ap stuck_at found.place), reads.level ∙ rw (tokens, is) refl)

  pub reads_end : tokens_in (drop at s) ≡ [] →
      (right_answer s ≡ tested_from at s (at_end st.around (ended st.level))) × (fault_level s ≡ length st.around)
  unfolding parse_from level_from
  reads_end tokens = (reads.answer ∙ rw tokens refl, reads.level ∙ rw tokens refl)
