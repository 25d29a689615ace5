-- What is not refused of the whole is not refused of a list field alone, in the style that the rules give the field,
-- between the neighbours that its list sees.
--     missing_alone    if the font lacks no symbol of the whole, it lacks none of the field (answer 5)
--     fits_alone       if the whole fits, the field's list fits (answer 6)
-- Both go down the path, a step at a time: both tests of a list are made of those of its items, of a choice's taken list, and those of
-- the fields.
-- Assumes nothing.
use Rattle.std.specs.Prelude.{◌≡◌, refl, Bool, ◌&&◌, ℕ}
use Rattle.std.proofs.Math.Bool.{true, and-eq-true_iff}
use Rattle.std.proofs.Math.Option.{Option, none, some}
use Rattle.std.proofs.Common.{arith}
use Rattle.font.specs.Font.{Font}
use Rattle.formula.specs.declared.Kind.{Kind}
use Rattle.formula.specs.Tree.{Items, Item, Field, nil, cons, noad, list, opening_bytes, item_bytes}
use Rattle.formula.specs.Places.{second_field, third_field}
use Rattle.boxes.specs.declared.styles.Level.{Level}
use Rattle.boxes.specs.declared.styles.Level.TheVariants.{Display, Text, Script, Scriptscript}
use Rattle.boxes.specs.declared.styles.Style.{Style}
use Rattle.arrange.specs.declared.Manner.TheVariants.{Plain}
use Rattle.arrange.specs.Arrange.{first_style, second_style, third_style, first_manner}
use Rattle.setting.specs.Setting.{no_sides, sides_of, style_after, style_behind, set_list}
use Rattle.setting.specs.Missing.{◌or_else◌, later, missing_items, missing_item, missing_field}
use Rattle.setting.specs.Fitting.{box_fits, items_fit, item_fits, field_fits, list_fits}
use Rattle.setting.specs.Paths.{Arm, in_first, in_second, in_third, holding, field_style, field_manner, join, choice_with, Spot, among, within, put, items_before, holder, list_with, item_style, Path, whole, into, fill, style_at, sides_at}
use Rattle.setting.proofs.Lines.{style_after_join}

-- ---- answer 5

-- nothing is missing of two or three parts just if nothing is of any

pub neither_missing : (x y : Option ℕ) → x or_else y ≡ none → (x ≡ none) × (y ≡ none)
neither_missing none y e = (refl, e)
neither_missing (some place) y e = let z : ◌≡◌ {A = ℕ} 0 1 = cc in absurd (omega arith)

pub none_of_three_missing : (x y z : Option ℕ) → x or_else y or_else z ≡ none → (x ≡ none) × (y ≡ none) × (z ≡ none)
none_of_three_missing x y z e =
    let h = neither_missing x (y or_else z) e in
    let k = neither_missing y z h.1 in
    (h.0, k.0, k.1)

-- whether something is missing does not depend on where places are counted from
pub not_later : (at : ℕ) (m : Option ℕ) → later at m ≡ none → m ≡ none
unfolding later
not_later at none e = refl
not_later at (some place) e = let z : ◌≡◌ {A = ℕ} 0 1 = cc in absurd (omega arith)

module _ (F : Font) where
  -- the three fields of an item
  abbrev pub FieldsThere : Style → Kind → Field → Field → Field → Type 0
  FieldsThere s kind x y z =
      (missing_field F (first_style kind s) (first_manner kind s) (opening_bytes kind) x ≡ none)
      × (missing_field F (second_style kind s) Plain (second_field kind x) y ≡ none)
      × (missing_field F (third_style s) Plain (third_field kind x y) z ≡ none)

  pub fields_there : (s : Style) (kind : Kind) (x y z : Field) → missing_item F s (noad kind x y z) ≡ none → FieldsThere s kind x y z
  unfolding missing_item
  fields_there s kind x y z e = none_of_three_missing _ _ _ e

  -- a field of an item
  missing_in_item : (s : Style) (kind : Kind) (g : Arm) (l : Items) →
      missing_item F s (holding kind g l) ≡ none → missing_items F (field_style kind g s) l ≡ none
  unfolding missing_field
  missing_in_item s kind (in_first y z) l e = not_later _ _ (fields_there s kind (list l) y z e).0
  missing_in_item s kind (in_second x z) l e = not_later _ _ (fields_there s kind x (list l) z e).1
  missing_in_item s kind (in_third x y) l e = not_later _ _ (fields_there s kind x y (list l) e).2

  -- past the items before it
  missing_behind : (s : Style) (before r : Items) → missing_items F s (join before r) ≡ none →
      missing_items F (style_after s before) r ≡ none
  unfolding missing_items style_after
  missing_behind s nil r e = e
  missing_behind s (cons i b) r e =
      let rest = missing_items F (style_behind s i) (join b r) in
      missing_behind (style_behind s i) b r
      (not_later (item_bytes i) rest (neither_missing (missing_item F s i) (later (item_bytes i) rest) e).1)

  -- the item at a place of a list
  missing_there : (s : Style) (before : Items) (i : Item) (after : Items) →
      missing_items F s (join before (cons i after)) ≡ none → missing_item F (style_after s before) i ≡ none
  unfolding missing_items
  missing_there s before i after e =
      let t = style_after s before in
      let rest = later (item_bytes i) (missing_items F (style_behind t i) after) in
      (neither_missing (missing_item F t i) rest (missing_behind s before (cons i after) e)).0

  missing_in_choice : (s : Style) (l a b c : Items) → missing_item F s (choice_with s.level l a b c) ≡ none →
      missing_items F s l ≡ none
  unfolding missing_item
  missing_in_choice s l a b c = go s.level s.cramped
    where
      go : (level : Level) (cramped : Bool) →
          let t : Style = record { level = level; cramped = cramped } in
          missing_item F t (choice_with level l a b c) ≡ none → missing_items F t l ≡ none
      go Display cramped e = not_later _ _ e
      go Text cramped e = not_later _ _ e
      go Script cramped e = not_later _ _ e
      go Scriptscript cramped e = not_later _ _ e

  missing_at_spot : (s : Style) (spot : Spot) (i : Item) → missing_items F s (put s spot i) ≡ none →
      missing_item F (style_after s (items_before spot)) i ≡ none
  missing_at_spot s (among before after) i e = missing_there s before i after e
  missing_at_spot s (within before a b c spot after) i e =
      let t = style_after s before in
      let l = put t spot i in
      rw style_after_join (missing_at_spot t spot i
      (missing_in_choice t l a b c (missing_there s before (choice_with t.level l a b c) after e)))

  pub missing_alone : (s : Style) (p : Path) (l : Items) →
      missing_items F s (fill s p l) ≡ none → missing_items F (style_at s p) l ≡ none
  missing_alone s whole l e = e
  missing_alone s (into p t) l e =
      let u = style_at s p in
      missing_in_item (item_style u t) t.kind t.arm l
      (missing_at_spot u t.spot (holder t l) (missing_alone s p (list_with u t l) e))

-- ---- answer 6

pub all_true : (x y z : Bool) → (x && y && z) ≡ true → (x ≡ true) × (y ≡ true) × (z ≡ true)
all_true x y z e =
    let h = (and-eq-true_iff (x && y) z).0 e in
    let k = (and-eq-true_iff x y).0 h.0 in
    (k.0, k.1, h.1)

module _ (F : Font) where
  pub fields_fit : (s : Style) (kind : Kind) (x y z : Field) → item_fits F s (noad kind x y z) ≡ true →
      (field_fits F (first_style kind s) (first_manner kind s) x ≡ true)
      × (field_fits F (second_style kind s) Plain y ≡ true)
      × (field_fits F (third_style s) Plain z ≡ true)
  unfolding item_fits
  fields_fit s kind x y z e =
      all_true (field_fits F (first_style kind s) (first_manner kind s) x) (field_fits F (second_style kind s) Plain y)
      (field_fits F (third_style s) Plain z) e

  fits_in_item : (s : Style) (kind : Kind) (g : Arm) (l : Items) →
      item_fits F s (holding kind g l) ≡ true → list_fits F (sides_of (field_manner kind g s)) (field_style kind g s) l ≡ true
  unfolding field_fits list_fits
  fits_in_item s kind (in_first y z) l e = (fields_fit s kind (list l) y z e).0
  fits_in_item s kind (in_second x z) l e = (fields_fit s kind x (list l) z e).1
  fits_in_item s kind (in_third x y) l e = (fields_fit s kind x y (list l) e).2

  fits_behind : (s : Style) (before r : Items) → items_fit F s (join before r) ≡ true → items_fit F (style_after s before) r ≡ true
  unfolding items_fit style_after
  fits_behind s nil r e = e
  fits_behind s (cons i b) r e =
      let t = style_behind s i in
      fits_behind t b r ((and-eq-true_iff (item_fits F s i) (items_fit F t (join b r))).0 e).1

  fits_there : (s : Style) (before : Items) (i : Item) (after : Items) →
      items_fit F s (join before (cons i after)) ≡ true → item_fits F (style_after s before) i ≡ true
  unfolding items_fit
  fits_there s before i after e =
      let t = style_after s before in
      ((and-eq-true_iff (item_fits F t i) (items_fit F (style_behind t i) after)).0 (fits_behind s before (cons i after) e)).0

  fits_in_choice : (s : Style) (l a b c : Items) → item_fits F s (choice_with s.level l a b c) ≡ true → items_fit F s l ≡ true
  unfolding item_fits
  fits_in_choice s l a b c = go s.level s.cramped
    where
      go : (level : Level) (cramped : Bool) →
          let t : Style = record { level = level; cramped = cramped } in
          item_fits F t (choice_with level l a b c) ≡ true → items_fit F t l ≡ true
      go Display cramped e = e
      go Text cramped e = e
      go Script cramped e = e
      go Scriptscript cramped e = e

  fits_at_spot : (s : Style) (spot : Spot) (i : Item) → items_fit F s (put s spot i) ≡ true →
      item_fits F (style_after s (items_before spot)) i ≡ true
  fits_at_spot s (among before after) i e = fits_there s before i after e
  fits_at_spot s (within before a b c spot after) i e =
      let t = style_after s before in
      let l = put t spot i in
      rw style_after_join (fits_at_spot t spot i
      (fits_in_choice t l a b c (fits_there s before (choice_with t.level l a b c) after e)))

  pub fits_alone : (s : Style) (p : Path) (l : Items) →
      list_fits F no_sides s (fill s p l) ≡ true → list_fits F (sides_at s p) (style_at s p) l ≡ true
  unfolding list_fits
  fits_alone s whole l e = e
  fits_alone s (into p t) l e =
      let u = style_at s p in
      let outer = list_with u t l in
      let h = (and-eq-true_iff (box_fits (set_list F (sides_at s p) u outer)) (items_fit F u outer)).0 (fits_alone s p outer e) in
      fits_in_item (item_style u t) t.kind t.arm l (fits_at_spot u t.spot (holder t l) h.1)
