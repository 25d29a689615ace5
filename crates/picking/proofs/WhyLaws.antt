-- What decided the shifts of an item, from the shapes that the walk gives its fields.
--     field_given, third_given     what the walk asks of a field
--     head_reasons     the reasons of an item, where nothing is missing of it and all in it fits
--     no_fields, same_fields     an item by its opening
--     place_reasons, place_without_reasons     the item that starts at a place
-- Assumes nothing.
use mathlib.Core.Path.{◌≡◌, sym, ap, subst, ◌∙◌}
use mathlib.Core.List.{List, [], ◌∷◌}
use Rattle.std.specs.Prelude.{Option, None}
use mathlib.Core.Option.{Option as OptionOf, none, some}
use Prim.Native.Nat.{ℕ, ◌-◌, ◌≤◌}
use lib.ListN.{length, take, drop}
use denote.Enum.Declared.{tag_of}
use types.Run.{OneOf, miss}
use Rattle.font.specs.Font.{Font}
use Rattle.formula.specs.declared.Kind.{Kind}
use Rattle.formula.specs.declared.Opening.{Opening}
use Rattle.formula.specs.declared.Opening.TheVariants.{Fields}
use Rattle.formula.specs.contracts.Opening.{the_type}
use Rattle.formula.specs.Tree.{opening_bytes}
use Rattle.formula.specs.Heads.{opening_of}
use Rattle.formula.specs.Places.{Readable, tree_of, has_third, second, third, field_in, third_in, GoodFieldAt, GoodThird}
use Rattle.formula.specs.PlacesLaws.{second_field_lem, third_field_lem, noad_at_lem}
use Rattle.boxes.specs.declared.styles.Style.{Style}
use Rattle.boxes.specs.declared.Shape.{Shape as CodeShape}
use Rattle.boxes.specs.Parameters.{Parameters}
use Rattle.boxes.specs.Boxes.{Shape}
use Rattle.boxes.specs.Values.{shape_as}
use Rattle.delimiters.specs.Delimiters.{Signs}
use Rattle.arrange.specs.declared.Manner.TheVariants.{Plain}
use Rattle.arrange.specs.Arrange.{first_style, second_style, third_style, first_manner}
use Rattle.arrange.specs.Reasons.{reasons}
use Rattle.reasons.specs.Reasons.{Reasons}
use Rattle.reasons.specs.declared.Reasons.{Reasons as CodeReasons}
use Rattle.reasons.specs.Values.{item_reasons_as}
use Rattle.setting.specs.Setting.{signs_in, set_field}
use Rattle.setting.proofs.FieldAlone.{fields_there, fields_fit}
use Rattle.setting.specs.Picked.{Picked, pick_in, picked_reasons, reasons_at}
use Rattle.setting.proofs.PickedLaws.{picked_there}
use Rattle.walk_fields.specs.Lists.{ListGiven, FieldGiven}
use Rattle.picking.specs.Picking.{Spotted, ThirdGiven, ShapeDone, HeadReasonsAre, ItemReasonsAre, PlaceReasonsAre}

-- ---- what the walk asks of a field

module _ {s : List ℕ} (given : ListGiven s) {at at' : ℕ} (is : at ≡ at') where
  pub field_given : GoodFieldAt s at' → at' ≤ length s → FieldGiven s at
  field_given good inside = record { good = rw is good; inside = rw is inside; short = given.short }

  pub third_given : (kind : Kind) → GoodThird s (has_third kind) at' → at' ≤ length s → ThirdGiven kind s at
  third_given kind good inside = record { good = rw is good; inside = rw is inside; short = given.short }

-- ---- the reasons of an item

module _ (F : Font) (u : Style) (kind : Kind) (s : List ℕ) (opens : opening_of s ≡ Fields kind) (r : Readable s) where
  abbrev x_set : Shape
  x_set = (set_field F (first_style kind u) (first_manner kind u) (field_in s (opening_bytes kind))).shape

  abbrev y_set : Shape
  y_set = (set_field F (second_style kind u) Plain (field_in s (second s kind))).shape

  abbrev z_set : Shape
  z_set = (set_field F (third_style u) Plain (third_in s (has_third kind) (third s kind))).shape

  pub head_reasons : (P : Parameters) (x y z : CodeShape) (signs : Signs) (found : Option CodeReasons) → P ≡ F.parameter →
      ShapeDone F (first_style kind u) (first_manner kind u) (opening_bytes kind) (field_in s (opening_bytes kind)) x →
      ShapeDone F (second_style kind u) Plain (second s kind) (field_in s (second s kind)) y →
      ShapeDone F (third_style u) Plain (third s kind) (third_in s (has_third kind) (third s kind)) z →
      signs ≡ signs_in F u kind (shape_as x) →
      item_reasons_as found ≡ reasons P u kind signs (shape_as x) (shape_as y) (shape_as z) → HeadReasonsAre F u kind s found
  unfolding picked_reasons
  head_reasons P x y z signs found parameters_are x-done y-done z-done signs-are is sound =
      let there = fields_there F u kind _ _ _ sound.present in
      let fit = fields_fit F u kind _ _ _ sound.fits in
      let x_is : shape_as x ≡ x_set = x-done.is there.0 fit.0 in
      let y-is : shape_as y ≡ y_set = y-done.is (rw (second_field_lem s kind (noad_at_lem s kind opens r)) at there.1) fit.1 in
      let z-is : shape_as z ≡ z_set = z-done.is (rw (third_field_lem s kind (noad_at_lem s kind opens r)) at there.2) fit.2 in
      is
      ∙ ap (λ (q : Parameters). reasons q u kind signs (shape_as x) (shape_as y) (shape_as z)) parameters_are
      ∙ ap (λ (g : Signs). reasons F.parameter u kind g (shape_as x) (shape_as y) (shape_as z)) signs-are
      ∙ ap (λ (a : Shape). reasons F.parameter u kind (signs_in F u kind a) a (shape_as y) (shape_as z)) x_is
      ∙ ap (λ (b : Shape). reasons F.parameter u kind (signs_in F u kind x_set) x_set b (shape_as z)) y-is
      ∙ ap (λ (c : Shape). reasons F.parameter u kind (signs_in F u kind x_set) x_set y_set c) z-is

-- ---- an item by its opening

-- one without fields, as the code's test tells it
abbrev pub NoFields : Opening → Type 0
NoFields o = OneOf (0 ∷ 2 ∷ 3 ∷ 4 ∷ []) (tag_of the_type o)

without_fields : (o : Opening) (kind : Kind) → NoFields o → o ≡ Fields kind → ⊥
without_fields o kind other e = miss (0 ∷ 2 ∷ 3 ∷ 4 ∷ []) 1 tt (subst NoFields e other)

module _ (F : Font) (u : Style) (s : List ℕ) {o : Opening} (read : o ≡ opening_of s) where
  pub no_fields : (found : Option CodeReasons) → NoFields o → ItemReasonsAre F u s found
  no_fields found other kind opens = absurd (without_fields o kind other (read ∙ opens))

  pub same_fields : {kind : Kind} (found : Option CodeReasons) → o ≡ Fields kind → HeadReasonsAre F u kind s found → ItemReasonsAre F u s found
  same_fields {kind} found is are other opens =
      let same : kind ≡ other = cc (sym is ∙ read ∙ opens) in
      subst (λ (k : Kind). HeadReasonsAre F u k s found) same are

-- ---- the item that starts at a place

module _ (F : Font) (u : Style) (place : ℕ) (s : List ℕ) where
  by_pick : OptionOf Picked → OptionOf Reasons
  by_pick q = elim q [ none ↦ none | some x ↦ picked_reasons F x ]

  pub place_without_reasons : pick_in u place (tree_of s) ≡ none → PlaceReasonsAre F u place (tree_of s) None
  unfolding reasons_at by_pick
  place_without_reasons e there fits = sym (ap by_pick e)

  pub place_reasons : {v : Style} {end : ℕ} (found : Option CodeReasons) → Spotted (pick_in u place (tree_of s)) v place s end →
      ItemReasonsAre F v (take (end - place) (drop place s)) found → PlaceReasonsAre F u place (tree_of s) found
  unfolding reasons_at by_pick
  place_reasons found spot are there fits =
      let head = spot.head in
      are head.kind head.opens (picked_there F u place (tree_of s) there fits head.is) ∙ sym (ap by_pick head.is)
