-- What the code's values stand for, and what its functions promise.
--     is_bare                   an expression is one word or one group
--     Onward                   a place up to which a formula has been written
--     Wrote                    bytes written at a place, if they nest no deeper than allowed and do not pass the greatest length
--     RowMade and the like     of any names and derivation whose tokens are those of the slice: what it means has been written
-- Assumes nothing.
use Rattle.std.specs.Prelude.{◌≡◌, Bool, true, false, ◌&&◌, List, ◌++◌, ℕ, ◌+◌, ◌≤◌, ◌<◌, length, Option, Some, None}
use Rattle.std.proofs.Math.Option.{Option as OptionOf, none, some}
use Rattle.std.proofs.lemmas.List.Edits.{sets}
use Rattle.eqn_tokens.specs.Tokens.{Token, tokens_in}
use Rattle.eqn_names.specs.declared.NameIndex.{NameIndex}
use Rattle.eqn_names.specs.Names.{Name}
use Rattle.eqn_names.specs.Firsts.{Listed}
use Rattle.eqn_names.specs.declared.Symbol.{Symbol}
use Rattle.formula.specs.Format.{formula_limit}
use Rattle.formula.specs.Heads.{class_number}
use Rattle.formula_spelling.specs.Spelling.{spelling, item_spelling, field_spelling}
use Rattle.eqn_grammar.specs.Grammar.{Row, Limited, NoOvers, no_overs, some_overs, Overs, Scripted, Primary, row_tokens, limited_tokens, overs_tokens, scripted_tokens, primary_tokens}
use Rattle.eqn_grammar.specs.Splits.{last_outside}
use Rattle.eqn_meaning.specs.Meaning.{row_items, limited_item, limit_field, overs_operand, scripted_operand, primary_nucleus, items_within, item_within, field_within}
use Rattle.eqn_tokens.specs.declared.tokens.Keyword.TheVariants.{Sub, Sup, Over}

abbrev pub is_none : {A : Type 0} → OptionOf A → Bool
is_none none = true
is_none (some a) = false

-- no keyword outside braces, in an expression without limits
abbrev pub is_bare : List Token → Bool
is_bare ts = is_none (last_outside Over ts) && is_none (last_outside Sup ts) && is_none (last_outside Sub ts)

-- ---- bytes

abbrev pub Onward : ℕ → Option ℕ → Type 0
Onward at (Some e) = (at ≤ e) × (e ≤ formula_limit)
Onward at None = Unit {0}

abbrev pub found_family : Option Symbol → ℕ
found_family (Some symbol) = symbol.family
found_family None = 0

abbrev pub found_code : Option Symbol → ℕ
found_code (Some symbol) = symbol.code
found_code None = 0

-- ---- what has been written

pub record Written (within : Bool) (b : List ℕ) (at e : ℕ) (before after : List ℕ) : Type 0 where
  pub deep : within ≡ true
  pub ends : e ≡ at + length b
  pub short : e ≤ formula_limit
  pub stored : after ≡ sets before at b

pub record Unwritten (within : Bool) (b : List ℕ) (at : ℕ) (before after : List ℕ) : Type 0 where
  pub large : within ≡ true → formula_limit < at + length b
  pub as_long : length after ≡ length before

abbrev pub Wrote : Bool → List ℕ → ℕ → List ℕ → List ℕ → Option ℕ → Type 0
Wrote within b at before after (Some e) = Written within b at e before after
Wrote within b at before after None = Unwritten within b at before after

-- the operand that a slice is, or that is not there
abbrev pub Stands : NoOvers → List ℕ → Type 0
Stands no_overs s = length s ≡ 0
Stands (some_overs o) s = overs_tokens o ≡ tokens_in s

module _ (index : NameIndex) where
  -- for the names of the table
  abbrev pub WithNames : (List Name → Type 0) → Type 0
  WithNames P = (ns : List Name) → Listed index.names.now index.firsts.now ns → P ns

  abbrev pub RowMade : List ℕ → ℕ → ℕ → List ℕ → List ℕ → Option ℕ → Type 0
  RowMade s levels at before after r =
      WithNames (λ ns. (d : Row) → row_tokens d ≡ tokens_in s →
      Wrote (items_within (row_items ns d) levels) (spelling (row_items ns d)) at before after r)

  abbrev pub ItemMade : List ℕ → ℕ → ℕ → List ℕ → List ℕ → Option ℕ → Type 0
  ItemMade s levels at before after r =
      WithNames (λ ns. (d : Limited) → limited_tokens d ≡ tokens_in s →
      Wrote (item_within (limited_item ns d) levels) (item_spelling (limited_item ns d)) at before after r)

  abbrev pub OverMade : List ℕ → ℕ → ℕ → List ℕ → List ℕ → Option ℕ → Type 0
  OverMade s levels at before after r =
      WithNames (λ ns. (d : Overs) → overs_tokens d ≡ tokens_in s →
      Wrote (item_within (overs_operand ns d).item levels) (item_spelling (overs_operand ns d).item) at before after r)

  abbrev pub AtomMade : List ℕ → ℕ → ℕ → List ℕ → List ℕ → Option ℕ → Type 0
  AtomMade s levels at before after r =
      WithNames (λ ns. (d : Scripted) → scripted_tokens d ≡ tokens_in s →
      Wrote (item_within (scripted_operand ns d).item levels) (item_spelling (scripted_operand ns d).item) at before after r)

  abbrev pub OperandMade : List ℕ → ℕ → ℕ → List ℕ → List ℕ → Option ℕ → Type 0
  OperandMade s levels at before after r =
      WithNames (λ ns. (d : Overs) → overs_tokens d ≡ tokens_in s →
      Wrote (field_within (overs_operand ns d).field levels) (field_spelling (overs_operand ns d).field) at before after r)

  abbrev pub ScriptMade : List ℕ → ℕ → ℕ → List ℕ → List ℕ → Option ℕ → Type 0
  ScriptMade s levels at before after r =
      WithNames (λ ns. (d : NoOvers) → Stands d s →
      Wrote (field_within (limit_field ns d) levels) (field_spelling (limit_field ns d)) at before after r)

  abbrev pub FieldsMade : List ℕ → List ℕ → List ℕ → ℕ → ℕ → List ℕ → List ℕ → Option ℕ → Type 0
  FieldsMade nucleus superscript subscript levels at before after r =
      WithNames (λ ns. (d : Overs) (q b : NoOvers) → overs_tokens d ≡ tokens_in nucleus → Stands q superscript → Stands b subscript →
      let x = (overs_operand ns d).field in
      let y = limit_field ns q in
      let z = limit_field ns b in
      Wrote
      (field_within x levels && field_within y levels && field_within z levels)
      (field_spelling x ++ (field_spelling y ++ field_spelling z))
      at before after r)

  abbrev pub PrimaryMade : List ℕ → ℕ → ℕ → List ℕ → List ℕ → Option ℕ → Type 0
  PrimaryMade s levels at before after r =
      WithNames (λ ns. (d : Primary) → primary_tokens d ≡ tokens_in s →
      Wrote (field_within (primary_nucleus ns d).field levels) (field_spelling (primary_nucleus ns d).field) at before after r)

  abbrev pub ClassFound : List ℕ → ℕ → Type 0
  ClassFound s r = WithNames (λ ns. (d : Primary) → primary_tokens d ≡ tokens_in s → r ≡ class_number (primary_nucleus ns d).class)
