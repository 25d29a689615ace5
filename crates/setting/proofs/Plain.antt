-- What change requests 2 and 4 leave as it was: a formula with no style change ST, no choice C4 and no fence FE in it, at any depth, is
-- set as document 01 says (a root as request 3 does), in one style from a list's first item to its last, with no neighbours beyond it.
-- The definitions without them stand here for that; what they give an ST, a C4 or an FE means nothing.
--     Plain             no ST, no C4 and no FE, in list fields neither
--     PlainLine         what stands so far, with no style; set_plain, missing_plain, plain_fits   the box, what is missing, what fits
--     set_as_before, missing_as_before, fits_as_before     of a plain list these are `set_list`, `missing_items`, `list_fits`
-- Assumes nothing.
use Rattle.std.specs.Prelude.{◌≡◌, refl, Bool, true, false, ℕ, ◌+◌}
use Rattle.std.proofs.Math.Path.{ap, ap₂}
use Rattle.std.proofs.Common.{◌∙◌}
use Rattle.std.proofs.Math.Bool.{◌&&◌}
use Rattle.std.proofs.Math.Option.{Option, none, some}
use Rattle.font.specs.Font.{Font}
use Rattle.formula.specs.declared.Class.{Class}
use Rattle.formula.specs.Tree.{Items, Item, Field, nil, cons, noad, kern, restyle, choice, empty, symbol, list, opening_bytes, holds_list, list_opening_bytes, items_bytes, item_bytes, field_bytes}
use Rattle.formula.specs.Places.{second_field, third_field}
use Rattle.boxes.specs.declared.styles.Style.{Style}
use Rattle.boxes.specs.Styles.{font_size}
use Rattle.spacing.specs.Classes.{Neighbour, class_of, changed_class}
use Rattle.spacing.specs.Spacing.{space_before}
use Rattle.boxes.specs.Boxes.{box}
use Rattle.arrange.specs.declared.Manner.{Manner}
use Rattle.arrange.specs.declared.Manner.TheVariants.{Plain as Plainly}
use Rattle.arrange.specs.Arrange.{first_style, second_style, third_style, first_manner}
use Rattle.setting.specs.Setting.{Box, FieldBox, Line, symbol_in, empty_field_box, symbol_field_box, item_box, style_behind, next_class, class_at, empty_box, beside, kerned, placed, Sides, no_sides, sides_of, is_enlarged, start, closed, set_items, set_item, set_field, set_list}
use Rattle.setting.proofs.SettingLaws.{held_sides, first_sides}
use Rattle.setting.specs.FieldInPlace.{list_field_box}
use Rattle.setting.specs.Missing.{◌or_else◌, later, absent_at, missing_items, missing_item, missing_field}
use Rattle.setting.specs.Fitting.{box_fits, items_fit, item_fits, field_fits, list_fits}

unfoldable mutual
  pub Plain : Items → Type 0
  Plain nil = Unit {0}
  Plain (cons i r) = PlainItem i × Plain r

  pub PlainItem : Item → Type 0
  PlainItem (noad kind x y z) = PlainField x × PlainField y × PlainField z × (holds_list kind ≡ false)
  PlainItem (kern n) = Unit {0}
  PlainItem (restyle number) = ⊥
  PlainItem (choice d t sc ss) = ⊥

  pub PlainField : Field → Type 0
  PlainField empty = Unit {0}
  PlainField (symbol family code) = Unit {0}
  PlainField (list l) = Plain l

-- ---- the box

pub record PlainLine : Type 0 where
  pub left : Neighbour
  pub box : Box

abbrev in_style : Style → PlainLine → Line
in_style s l = record { left = l.left; style = s; box = l.box }

unfoldable pub plain_placed : Font → Style → Neighbour → PlainLine → Class → Box → PlainLine
plain_placed F s right l class b =
    let c = changed_class l.left class right in
    record { left = some c; box = beside l.box (space_before F.parameter s l.left c) b }

unfoldable pub next_plain : Neighbour → Items → Neighbour
next_plain beyond nil = beyond
next_plain beyond (cons (noad kind x y z) r) = some (class_of kind)
next_plain beyond (cons (kern n) r) = next_plain beyond r
next_plain beyond (cons (restyle number) r) = beyond
next_plain beyond (cons (choice d t sc ss) r) = beyond

unfoldable mutual
  pub set_plain_items : Font → Style → Neighbour → PlainLine → Items → PlainLine
  set_plain_items F s beyond l nil = l
  set_plain_items F s beyond l (cons i r) = set_plain_items F s beyond (set_plain_item F s (next_plain beyond r) l i) r

  pub set_plain_item : Font → Style → Neighbour → PlainLine → Item → PlainLine
  set_plain_item F s right l (noad kind x y z) =
      plain_placed F s right l (class_of kind)
      (item_box F s kind
      (set_plain_field F (first_style kind s) (is_enlarged (first_manner kind s)) x)
      (set_plain_field F (second_style kind s) false y)
      (set_plain_field F (third_style s) false z))
  set_plain_item F s right l (kern n) = record { left = l.left; box = kerned l.box n }
  set_plain_item F s right l (restyle number) = l
  set_plain_item F s right l (choice d t sc ss) = l

  pub set_plain_field : Font → Style → Bool → Field → FieldBox
  set_plain_field F s enlarge empty = empty_field_box
  set_plain_field F s enlarge (symbol family code) =
      symbol_field_box (font_size s) family (symbol_in F (font_size s) enlarge family code)
  set_plain_field F s enlarge (list l) =
      let b = (set_plain_items F s none (record { left = none; box = empty_box }) l).box in
      record { shape = box b.size; nodes = b.nodes }

unfoldable pub set_plain : Font → Style → Items → Box
set_plain F s l = (set_plain_items F s none (record { left = none; box = empty_box }) l).box

-- ---- what is missing

unfoldable mutual
  pub missing_plain : Font → Style → Items → Option ℕ
  missing_plain F s nil = none
  missing_plain F s (cons i r) = missing_plain_item F s i or_else later (item_bytes i) (missing_plain F s r)

  pub missing_plain_item : Font → Style → Item → Option ℕ
  missing_plain_item F s (noad kind x y z) =
      let second = opening_bytes kind + field_bytes x in
      let third = second + field_bytes y in
      missing_plain_field F (first_style kind s) (is_enlarged (first_manner kind s)) (opening_bytes kind) x
      or_else missing_plain_field F (second_style kind s) false second y
      or_else missing_plain_field F (third_style s) false third z
  missing_plain_item F s (kern n) = none
  missing_plain_item F s (restyle number) = none
  missing_plain_item F s (choice d t sc ss) = none

  pub missing_plain_field : Font → Style → Bool → ℕ → Field → Option ℕ
  missing_plain_field F s enlarge at empty = none
  missing_plain_field F s enlarge at (symbol family code) = absent_at at (symbol_in F (font_size s) enlarge family code)
  missing_plain_field F s enlarge at (list l) = later (at + list_opening_bytes (items_bytes l)) (missing_plain F s l)

-- ---- what fits

unfoldable mutual
  pub plain_items_fit : Font → Style → Items → Bool
  plain_items_fit F s nil = true
  plain_items_fit F s (cons i r) = plain_item_fits F s i && plain_items_fit F s r

  pub plain_item_fits : Font → Style → Item → Bool
  plain_item_fits F s (noad kind x y z) =
      plain_field_fits F (first_style kind s) x && plain_field_fits F (second_style kind s) y && plain_field_fits F (third_style s) z
  plain_item_fits F s (kern n) = true
  plain_item_fits F s (restyle number) = true
  plain_item_fits F s (choice d t sc ss) = true

  pub plain_field_fits : Font → Style → Field → Bool
  plain_field_fits F s empty = true
  plain_field_fits F s (symbol family code) = true
  plain_field_fits F s (list l) = box_fits (set_plain F s l) && plain_items_fit F s l

unfoldable pub plain_fits : Font → Style → Items → Bool
plain_fits F s l = box_fits (set_plain F s l) && plain_items_fit F s l

-- ---- the style stays, and the next class is that of the next item with fields

pub style_stays : (s : Style) (i : Item) → PlainItem i → style_behind s i ≡ s
unfolding PlainItem style_behind
style_stays s (noad kind x y z) h = refl
style_stays s (kern n) h = refl
style_stays s (restyle number) h = absurd h
style_stays s (choice d t sc ss) h = absurd h

class_as_before : (s : Style) (beyond : Neighbour) (r : Items) → Plain r → next_class s beyond r ≡ next_plain beyond r
unfolding Plain PlainItem next_class class_at style_behind next_plain
class_as_before s beyond nil h = refl
class_as_before s beyond (cons (noad kind x y z) r) h = refl
class_as_before s beyond (cons (kern n) r) h = class_as_before s beyond r h.1
class_as_before s beyond (cons (restyle number) r) h = absurd h.0
class_as_before s beyond (cons (choice d t sc ss) r) h = absurd h.0

module _ (F : Font) where
  mutual
    unfolding Plain PlainItem PlainField set_items set_item set_field placed set_plain_items set_plain_item set_plain_field plain_placed

    items_as_before : (s : Style) (beyond : Neighbour) (line : PlainLine) (l : Items) → Plain l →
        set_items F beyond (in_style s line) l ≡ in_style s (set_plain_items F s beyond line l)
    items_as_before s beyond line nil h = refl
    items_as_before s beyond line (cons i r) h =
        let right = next_plain beyond r in
        ap (λ (t : Style). set_items F beyond (set_item F (next_class t beyond r) (in_style s line) i) r) (style_stays s i h.0)
        ∙ ap (λ (n : Neighbour). set_items F beyond (set_item F n (in_style s line) i) r) (class_as_before s beyond r h.1)
        ∙ ap (λ (m : Line). set_items F beyond m r) (item_as_before s right line i h.0)
        ∙ items_as_before s beyond (set_plain_item F s right line i) r h.1

    item_as_before : (s : Style) (right : Neighbour) (line : PlainLine) (i : Item) → PlainItem i →
        set_item F right (in_style s line) i ≡ in_style s (set_plain_item F s right line i)
    item_as_before s right line (noad kind x y z) h =
        let first = field_as_before (first_style kind s) (first_manner kind s) x h.0 (first_sides kind s ∙ ap held_sides h.3) in
        let second = field_as_before (second_style kind s) Plainly y h.1 refl in
        let third = field_as_before (third_style s) Plainly z h.2 refl in
        rw (first, second, third)
    item_as_before s right line (kern n) h = refl
    item_as_before s right line (restyle number) h = absurd h
    item_as_before s right line (choice d t sc ss) h = absurd h

    field_as_before : (s : Style) (manner : Manner) (f : Field) → PlainField f → sides_of manner ≡ no_sides →
        set_field F s manner f ≡ set_plain_field F s (is_enlarged manner) f
    field_as_before s manner empty h e = refl
    field_as_before s manner (symbol family code) h e = refl
    field_as_before s manner (list l) h e =
        ap (λ (sides : Sides). list_field_box (closed F s sides.right (set_items F sides.right (start sides.left s) l))) e
        ∙ ap (λ (m : Line). list_field_box m.box) (items_as_before s none (record { left = none; box = empty_box }) l h)

  pub set_as_before : (s : Style) (l : Items) → Plain l → set_list F no_sides s l ≡ set_plain F s l
  unfolding set_list set_plain
  set_as_before s l h = ap (λ (m : Line). m.box) (items_as_before s none (record { left = none; box = empty_box }) l h)

  mutual
    unfolding Plain PlainItem PlainField missing_items missing_item missing_field missing_plain missing_plain_item missing_plain_field

    pub missing_as_before : (s : Style) (l : Items) → Plain l → missing_items F s l ≡ missing_plain F s l
    missing_as_before s nil h = refl
    missing_as_before s (cons i r) h =
        ap (λ (t : Style). missing_item F s i or_else later (item_bytes i) (missing_items F t r)) (style_stays s i h.0)
        ∙ ap₂ (λ (x y : Option ℕ). x or_else later (item_bytes i) y) (missing_item_lem s i h.0) (missing_as_before s r h.1)

    missing_item_lem : (s : Style) (i : Item) → PlainItem i → missing_item F s i ≡ missing_plain_item F s i
    missing_item_lem s (noad kind x y z) h =
        ap₂ ◌or_else◌ (missing_field_lem (first_style kind s) (first_manner kind s) (opening_bytes kind) x h.0)
        (ap₂ ◌or_else◌ (missing_field_lem (second_style kind s) Plainly (second_field kind x) y h.1)
        (missing_field_lem (third_style s) Plainly (third_field kind x y) z h.2))
    missing_item_lem s (kern n) h = refl
    missing_item_lem s (restyle number) h = absurd h
    missing_item_lem s (choice d t sc ss) h = absurd h

    missing_field_lem : (s : Style) (manner : Manner) (at : ℕ) (f : Field) → PlainField f →
        missing_field F s manner at f ≡ missing_plain_field F s (is_enlarged manner) at f
    missing_field_lem s manner at empty h = refl
    missing_field_lem s manner at (symbol family code) h = refl
    missing_field_lem s manner at (list l) h = ap (later (at + list_opening_bytes (items_bytes l))) (missing_as_before s l h)

  mutual
    unfolding Plain PlainItem PlainField items_fit item_fits field_fits plain_items_fit plain_item_fits plain_field_fits

    items_fit_lem : (s : Style) (l : Items) → Plain l → items_fit F s l ≡ plain_items_fit F s l
    items_fit_lem s nil h = refl
    items_fit_lem s (cons i r) h =
        ap (λ (t : Style). item_fits F s i && items_fit F t r) (style_stays s i h.0)
        ∙ ap₂ ◌&&◌ (item_fits_lem s i h.0) (items_fit_lem s r h.1)

    item_fits_lem : (s : Style) (i : Item) → PlainItem i → item_fits F s i ≡ plain_item_fits F s i
    item_fits_lem s (noad kind x y z) h =
        ap₂ ◌&&◌
        (ap₂ ◌&&◌ (field_fits_lem (first_style kind s) (first_manner kind s) x h.0 (first_sides kind s ∙ ap held_sides h.3))
        (field_fits_lem (second_style kind s) Plainly y h.1 refl))
        (field_fits_lem (third_style s) Plainly z h.2 refl)
    item_fits_lem s (kern n) h = refl
    item_fits_lem s (restyle number) h = absurd h
    item_fits_lem s (choice d t sc ss) h = absurd h

    field_fits_lem : (s : Style) (manner : Manner) (f : Field) → PlainField f → sides_of manner ≡ no_sides →
        field_fits F s manner f ≡ plain_field_fits F s f
    field_fits_lem s manner empty h e = refl
    field_fits_lem s manner (symbol family code) h e = refl
    field_fits_lem s manner (list l) h e =
        ap₂ ◌&&◌ (ap box_fits (ap (λ (sides : Sides). set_list F sides s l) e ∙ set_as_before s l h)) (items_fit_lem s l h)

  pub fits_as_before : (s : Style) (l : Items) → Plain l → list_fits F no_sides s l ≡ plain_fits F s l
  unfolding list_fits plain_fits
  fits_as_before s l h = ap₂ ◌&&◌ (ap box_fits (set_as_before s l h)) (items_fit_lem s l h)
