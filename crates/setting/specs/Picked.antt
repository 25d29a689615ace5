-- The item that starts at a place of a formula (change request 7), and what decided its shifts.
--     Picked          an item with fields that the setter uses, and the style in which it sets it
--     pick_in          the one that starts at a place of a list, if one does: the place lies in one item of the list, and is that item's
--                     first byte, or lies in a list that the item holds
--     picked_first, picked_second, picked_third, picked_signs, picked_arranged     what the setter makes of it: its fields set, the signs
--                     found for it, and what the rules make of these
--     picked_reasons, reasons_at     what decided its shifts, from the shapes that the setter gives its fields
--     picked_stages   what its shifts go through
-- As in the reading, a place within a list counts from the list's first byte, and a place within an item from the item's. Of a choice only
-- the list taken is looked into, and the style is that current at each item.
-- Assumes nothing.
use Rattle.std.specs.Prelude.{Bool, true, false, ℕ, zero, suc, ◌+◌, ◌-◌, leb, ltb}
use Rattle.std.proofs.Math.Option.{Option, none, some}
use Rattle.font.specs.Font.{Font}
use Rattle.formula.specs.declared.Kind.{Kind}
use Rattle.formula.specs.Tree.{Items, Item, Field, nil, cons, noad, kern, restyle, choice, empty, symbol, list, opening_bytes, list_opening_bytes, items_bytes, item_bytes}
use Rattle.formula.specs.Places.{second_field, third_field}
use Rattle.boxes.specs.declared.styles.Style.{Style}
use Rattle.boxes.specs.Parameters.{Parameters}
use Rattle.boxes.specs.Boxes.{Shape, Arranged}
use Rattle.delimiters.specs.Delimiters.{Signs}
use Rattle.arrange.specs.declared.Manner.TheVariants.{Plain}
use Rattle.arrange.specs.Arrange.{arrange, first_style, second_style, third_style, first_manner}
use Rattle.arrange.specs.Reasons.{reasons, item_stages}
use Rattle.reasons.specs.Reasons.{Reasons}
use Rattle.reasons.specs.Stages.{BothStages}
use Rattle.setting.specs.Setting.{FieldBox, taken, style_behind, signs_in, set_field, taken_start}

pub record Picked : Type 0 where
  pub style : Style
  pub kind : Kind
  pub first : Field
  pub second : Field
  pub third : Field

abbrev pub picked : Style → Kind → Field → Field → Field → Picked
picked s kind x y z = record { style = s; kind = kind; first = x; second = y; third = z }

-- the one that is there; a place lies in one field at most
abbrev pub ◌or_in◌ : Option Picked → Option Picked → Option Picked
◌or_in◌ (some q) other = some q
◌or_in◌ none other = other

infixr 20 ◌or_in◌
-- what is found in a list, if the place is not before its first item
abbrev pub if_reached : Bool → Option Picked → Option Picked
if_reached true q = q
if_reached false q = none

unfoldable mutual
  pub pick_in : Style → ℕ → Items → Option Picked
  pick_in s place nil = none
  pick_in s place (cons i r) =
      elim (ltb place (item_bytes i)) [
        | true ↦ pick_at s place i
        | false ↦ pick_in (style_behind s i) (place - item_bytes i) r
      ]

  -- in an item
  pub pick_at : Style → ℕ → Item → Option Picked
  pick_at s zero (noad kind x y z) = some (picked s kind x y z)
  pick_at s (suc n) (noad kind x y z) =
      pick_field (first_style kind s) (opening_bytes kind) (suc n) x
      or_in pick_field (second_style kind s) (second_field kind x) (suc n) y
      or_in pick_field (third_style s) (third_field kind x y) (suc n) z
  pick_at s place (kern n) = none
  pick_at s place (restyle number) = none
  pick_at s place (choice d t sc ss) =
      let start = taken_start s d t sc ss in
      let n = place - start in
      if_reached (leb start place) (taken s (pick_in s n d) (pick_in s n t) (pick_in s n sc) (pick_in s n ss))

  -- in a field whose kind byte stands at a place of its item
  pub pick_field : Style → ℕ → ℕ → Field → Option Picked
  pick_field s at place empty = none
  pick_field s at place (symbol family code) = none
  pick_field s at place (list l) =
      let start = at + list_opening_bytes (items_bytes l) in
      if_reached (leb start place) (pick_in s (place - start) l)

-- ---- what the setter makes of it

abbrev pub picked_item : Picked → Item
picked_item q = noad q.kind q.first q.second q.third

module _ (F : Font) (q : Picked) where
  abbrev pub picked_first : FieldBox
  picked_first = set_field F (first_style q.kind q.style) (first_manner q.kind q.style) q.first

  abbrev pub picked_second : FieldBox
  picked_second = set_field F (second_style q.kind q.style) Plain q.second

  abbrev pub picked_third : FieldBox
  picked_third = set_field F (third_style q.style) Plain q.third

  abbrev pub picked_signs : Signs
  picked_signs = signs_in F q.style q.kind picked_first.shape

-- a function of what `arrange` sees of it: the shapes of its fields, and the signs that are found for them
abbrev pub of_picked : {A : Type 0} → (Parameters → Style → Kind → Signs → Shape → Shape → Shape → A) → Font → Picked → A
of_picked f F q =
    f F.parameter q.style q.kind (picked_signs F q) (picked_first F q).shape (picked_second F q).shape (picked_third F q).shape

abbrev pub picked_arranged : Font → Picked → Arranged
picked_arranged F q = of_picked arrange F q

unfoldable pub picked_reasons : Font → Picked → Option Reasons
picked_reasons F q = of_picked reasons F q

unfoldable pub picked_stages : Font → Picked → BothStages
picked_stages F q = of_picked item_stages F q

unfoldable pub reasons_at : Font → Style → ℕ → Items → Option Reasons
reasons_at F s place l = elim (pick_in s place l) [ none ↦ none | some q ↦ picked_reasons F q ]
