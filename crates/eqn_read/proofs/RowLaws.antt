-- A row: what is promised of it follows from what is promised of its expressions, one after the other.
--     RowLeft, row_start      the whole follows of what is left of it; first all is left
--     RowTurn, turn_onward, row_next, row_stop     an expression more has been written, or it was too large
--     row_done                nothing is left
-- Assumes nothing.
use Rattle.std.specs.Prelude.{Option, Some, None}
use mathlib.Core.Path.{◌≡◌, refl, sym, ap, subst⁻¹, ◌∙◌}
use mathlib.Core.List.{List, []}
use Prim.Native.Nat.{ℕ, ◌+◌, ◌-◌, ◌<◌, ◌≤◌}
use native.Mathlib.Omega.{arith}
use lib.ListN.{length, take, drop}
use Rattle.eqn_tokens.specs.Tokens.{Token, tokens_in}
use Rattle.eqn_names.specs.declared.NameIndex.{NameIndex}
use Rattle.eqn_names.specs.Names.{Name}
use Rattle.eqn_names.specs.Firsts.{Listed}
use Rattle.formula.specs.Format.{formula_limit}
use Rattle.formula_spelling.specs.Spelling.{spelling}
use Rattle.eqn_grammar.specs.Grammar as grammar
use Rattle.eqn_grammar.specs.Grammar.{Row, beside, Limited, row_tokens, limited_tokens}
use Rattle.eqn_grammar.specs.Splits.{first_expression}
use Rattle.eqn_grammar.specs.SplitLaws.{first_expression_lem}
use Rattle.eqn_meaning.specs.Meaning.{row_items, items_within}
use Rattle.eqn_cuts.specs.Values.{ExpressionEnds}
use Rattle.eqn_stores.specs.Values.{Ends}
use Rattle.eqn_read.specs.Values.{Onward, Wrote, RowMade, ItemMade}
use Rattle.eqn_read.proofs.WroteLaws.{goes, ends_onward, onward_stop, wrote_nothing, wrote_then, wrote_stop}
use Rattle.eqn_read.proofs.PrimaryLaws.{no_tokens}
use Rattle.eqn_read.proofs.MeantLaws.{NotEmpty, some_append, limited_some}

-- of what is written behind, the whole follows
pub record RestLeft (s : List ℕ) (levels at : ℕ) (o : List ℕ) (from end : ℕ) (o₁ : List ℕ) (ns : List Name) (d : Row) : Type 0 where
  pub row : Row
  pub tokens : row_tokens row ≡ tokens_in (drop from s)
  pub whole : (o₂ : List ℕ) (r : Option ℕ) → Wrote (items_within (row_items ns row) levels) (spelling (row_items ns row)) end o₁ o₂ r →
      Wrote (items_within (row_items ns d) levels) (spelling (row_items ns d)) at o o₂ r

-- nothing is left
nothing_left : (ns : List Name) (levels : ℕ) (row : Row) → row_tokens row ≡ [] → (end : ℕ) (o : List ℕ) (r : Option ℕ) → Ends end r →
    Wrote (items_within (row_items ns row) levels) (spelling (row_items ns row)) end o o r
unfolding row_tokens row_items items_within spelling
nothing_left ns levels grammar.nil none end o r ends = wrote_nothing end o r ends
nothing_left ns levels (beside l more) none end o r ends = absurd (no_tokens (some_append (limited_tokens l) (row_tokens more) (limited_some l)) none)

-- the first expression of what is left
record FirstOf (s : List ℕ) (from behind : ℕ) (row : Row) : Type 0 where
  item : Limited
  more : Row
  is : row ≡ beside item more
  first : limited_tokens item ≡ tokens_in (take (behind - from) (drop from s))
  others : row_tokens more ≡ tokens_in (drop behind s)

first_of : {s : List ℕ} {from behind : ℕ} → ExpressionEnds s from behind → (row : Row) → row_tokens row ≡ tokens_in (drop from s) →
    NotEmpty (tokens_in (drop from s)) → FirstOf s from behind row
unfolding row_tokens
first_of ends grammar.nil tokens some = absurd (no_tokens some (sym tokens))
first_of ends (beside l more) tokens some =
    let same = sym (first_expression_lem l more) ∙ ap first_expression tokens ∙ ends.parts in
    record {
      item = l;
      more = more;
      is = refl;
      first = ap (λ (p : List Token × List Token). p.0) same;
      others = ap (λ (p : List Token × List Token). p.1) same;
    }

-- the loop's invariant: so much has been passed, and written
pub record RowLeft (index : NameIndex) (s : List ℕ) (levels at : ℕ) (o : List ℕ) (from end : ℕ) (o₁ : List ℕ) : Type 0 where
  pub within : from ≤ length s
  pub onward : at ≤ end
  pub short : end ≤ formula_limit + 3
  pub same : length o₁ ≡ length o
  pub rest : (ns : List Name) → Listed index.names.now index.firsts.now ns → (d : Row) → row_tokens d ≡ tokens_in s → RestLeft s levels at o from end o₁ ns d

pub row_start : (index : NameIndex) (s : List ℕ) (levels at : ℕ) (o : List ℕ) → at ≤ formula_limit + 3 → RowLeft index s levels at o 0 at o
row_start index s levels at o short =
    record {
      within = omega arith;
      onward = omega arith;
      short = short;
      same = refl;
      rest = λ ns records d tokens. record { row = d; tokens = tokens; whole = λ o₂ r wrote. wrote };
    }

pub row_done : {index : NameIndex} {s : List ℕ} {levels at : ℕ} {o : List ℕ} {from end : ℕ} {o₁ : List ℕ} → RowLeft index s levels at o from end o₁ → (r : Option ℕ) →
    tokens_in (drop from s) ≡ [] → Ends end r → Onward at r × RowMade index s levels at o o₁ r
row_done {levels = levels} {at = at} {end = end} {o₁ = o₁} left r none ends = (
  ends_onward at end r left.onward ends,
  λ ns records d tokens.
      let rest = left.rest ns records d tokens in
      rest.whole o₁ r (nothing_left ns levels rest.row (rest.tokens ∙ none) end o₁ r ends),
)

-- a turn of the loop: there is a token, and up to `behind` stands an expression, which has been put
pub record RowTurn (index : NameIndex) (s : List ℕ) (levels at : ℕ) (o : List ℕ) (from end : ℕ) (o₁ : List ℕ) (behind : ℕ) (q : Option ℕ) (o₂ : List ℕ) : Type 0 where
  pub left : RowLeft index s levels at o from end o₁
  pub some : NotEmpty (tokens_in (drop from s))
  pub ends : ExpressionEnds s from behind
  pub item : Onward end q × ItemMade index (take (behind - from) (drop from s)) levels end o₁ o₂ q

module _ {index : NameIndex} {s : List ℕ} {levels at : ℕ} {o : List ℕ} {from end : ℕ} {o₁ : List ℕ} {behind : ℕ} {q : Option ℕ} {o₂ : List ℕ} (u : RowTurn index s levels at o from end o₁ behind q o₂) where
  pub turn_onward : (from < behind) × (behind ≤ length s)
  turn_onward = (u.ends.onward u.some.0 u.some.1 u.some.2, u.ends.within)

  stopped_row : q ≡ None → RowMade index s levels at o o₂ q
  unfolding row_items items_within spelling
  stopped_row is ns records d tokens =
      let rest = u.left.rest ns records d tokens in
      let f = first_of u.ends rest.row rest.tokens u.some in
      rest.whole o₂ q
      (subst⁻¹ (λ (row : Row). Wrote (items_within (row_items ns row) levels) (spelling (row_items ns row)) end o₁ o₂ q) f.is
      (wrote_stop _ _ end o₁ o₂ _ _ is (u.item.1 ns records f.item f.first)))

  pub row_stop : q ≡ None → Onward at q × RowMade index s levels at o o₂ q
  row_stop is = (onward_stop at is, stopped_row is)

  rest_next : {e : ℕ} → q ≡ Some e → (ns : List Name) → Listed index.names.now index.firsts.now ns → (d : Row) → row_tokens d ≡ tokens_in s →
      RestLeft s levels at o behind e o₂ ns d
  unfolding row_items items_within spelling
  rest_next is ns records d tokens =
      let rest = u.left.rest ns records d tokens in
      let f = first_of u.ends rest.row rest.tokens u.some in
      record {
        row = f.more;
        tokens = f.others;
        whole =
            λ o₃ r wrote.
            rest.whole o₃ r
            (subst⁻¹ (λ (row : Row). Wrote (items_within (row_items ns row) levels) (spelling (row_items ns row)) end o₁ o₃ r) f.is
            (wrote_then _ _ end o₁ o₂ _ _ o₃ r is (u.item.1 ns records f.item f.first) wrote));
      }

  pub row_next : {e : ℕ} → q ≡ Some e → length o₂ ≡ length o₁ → RowLeft index s levels at o behind e o₂
  row_next is same =
      let further = goes end is u.item.0 in
      record {
        within = u.ends.within;
        onward = omega (arith, u.left.onward, further);
        short = omega (arith, further);
        same = same ∙ u.left.same;
        rest = rest_next is;
      }
