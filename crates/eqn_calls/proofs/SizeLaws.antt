-- What the makers of formulas and texts promise, as sizes and results.
--     made_sized        a formula that has been written, or counted, fits exactly if it is within its limits
--     made_stored       one that fits is stored at the front
--     put_sized         a text that has been written, or counted, is that of the formula's derivation
--     from_front        a text that begins at the front of its buffer
--     put_stored        a text that there is, is stored there
-- Assumes nothing.
use mathlib.Core.Path.{◌≡◌, refl, sym, ap, ◌∙◌}
use mathlib.Core.Bool.{true, false≢true}
use mathlib.Core.List.{List, [], ◌∷◌}
use mathlib.Core.Option.{Option, none, some}
use Prim.Native.Nat.{ℕ, ◌-◌}
use native.Mathlib.Omega.{arith}
use lib.ListN.{length}
use lib.Seq.{sets}
use Rattle.formula.specs.Tree.{Items}
use Rattle.formula.specs.Format.{depth_limit}
use Rattle.formula_spelling.specs.Spelling.{spelling}
use Rattle.eqn_tokens.specs.Tokens.{Token}
use Rattle.eqn_grammar.specs.Grammar.{Row, row_tokens}
use Rattle.eqn_meaning.specs.Meaning.{items_within, fits_formula}
use Rattle.eqn_meaning.specs.Writing.{text_of}
use Rattle.eqn_meaning.proofs.ResultLaws.{fits_within_limits, large_past_limits}
use Rattle.eqn_read.specs.Values.{Wrote}
use Rattle.std.specs.Prelude.{Option as CodeOption, Some, None}
use Rattle.eqn_write.specs.Values.{text_from, TextPut, tokens_of_row}
use Rattle.eqn_calls.specs.Values.{FormulaSized, TextSized}

pub made_sized : (l : Items) (before after : List ℕ) (r : CodeOption ℕ) → Wrote (items_within l (depth_limit - 1)) (spelling l) 0 before after r → FormulaSized l r
made_sized l before after (Some e) w = (fits_within_limits l w.deep (omega (arith, w.ends, w.short)), omega (arith, w.ends))
made_sized l before after None u = large_past_limits l (λ deep. omega (arith, u.large deep))

pub made_stored : (l : Items) (before after : List ℕ) (r : CodeOption ℕ) → fits_formula l ≡ true →
    Wrote (items_within l (depth_limit - 1)) (spelling l) 0 before after r → after ≡ sets before 0 (spelling l)
made_stored l before after (Some e) fits w = w.stored
made_stored l before after None fits u =
    absurd (false≢true (sym (large_past_limits l (λ deep. omega (arith, u.large deep))) ∙ fits))

pub from_front : (ts : List Token) → text_from 0 ts ≡ text_of ts
unfolding text_from text_of
from_front [] = refl
from_front (t ∷ ts) = refl

-- the row whose tokens have been written
row_of : (o : Option Row) {ts : List Token} → tokens_of_row o ≡ some ts → (r : Row) × (o ≡ some r) × (ts ≡ row_tokens r)
row_of none e = let no : ◌≡◌ {A = ℕ} 0 1 = cc in absurd (omega arith)
row_of (some r) e = (r, refl, (cc))

no_row : (o : Option Row) → tokens_of_row o ≡ none → o ≡ none
no_row none e = refl
no_row (some r) e = let no : ◌≡◌ {A = ℕ} 0 1 = cc in absurd (omega arith)

pub put_sized : (o : Option Row) (before after : List ℕ) (r : CodeOption ℕ) → TextPut (tokens_of_row o) 0 before after r → TextSized o r
put_sized o before after (Some e) w =
    let row = row_of o w.are in
    let text : text_from 0 w.tokens ≡ text_of (row_tokens row.0) = from_front w.tokens ∙ ap text_of row.2 in
    (row.0, row.1, omega (arith, w.ends, ap (λ (s : List ℕ). length s) text))
put_sized o before after None u = no_row o u.none_are

pub put_stored : (o : Option Row) {row : Row} (before after : List ℕ) (r : CodeOption ℕ) → o ≡ some row → TextPut (tokens_of_row o) 0 before after r →
    after ≡ sets before 0 (text_of (row_tokens row))
put_stored o {row} before after (Some e) is w =
    let tokens : w.tokens ≡ row_tokens row = (let own = rw is at w.are in cc) in
    w.stored ∙ ap (sets before 0) (from_front w.tokens ∙ ap text_of tokens)
put_stored o before after None is u = let no : ◌≡◌ {A = ℕ} 0 1 = (let own = rw is at u.none_are in cc) in absurd (omega arith)
