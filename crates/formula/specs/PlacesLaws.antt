-- Laws of a readable list, for a walk over its bytes.
--     known, readable_of, tree_is     `Readable` and `tree_of` say what `read` says, with whatever number of levels it reads
--     step                 a list that is not empty is its first item, given by its opening, and a readable rest.
--                          A list field of that item is `Readable` by itself, and the field is the list of its tree
--     Noad, noad_at_lem        where the fields of a first item with fields stand; Chosen, choice_at_lem    where the lists of a choice stand
--     list_good_field      a field that must be a list, as a field
--     items_bytes_lem, item_bytes_lem, field_bytes_lem, list_bytes     a list, an item, a field and a list of a choice are as long as their
--                          tree is written
--     second_field_lem, third_field_lem, lists_stand     fields and lists stand where their trees say
--     formula_good, formula_fault     what the verdict of a formula says of its reading
-- Assumes nothing.
use Rattle.std.specs.Prelude.{◌≡◌, Bool, true, false, List, ℕ, zero, suc, ◌+◌, ◌-◌, ◌≤◌, ◌<◌, ltb, length, drop, Ok, Err}
use Rattle.std.proofs.Math.Path.{refl, ap}
use Rattle.std.proofs.Common.{sym, subst, ap₂, ◌∙◌, ltb-false}
use native.Mathlib.Omega.{arith}
use Rattle.std.proofs.Math.ListN.{length-drop}
use Rattle.formula.specs.declared.Base.TheVariants.{Atom, Over, Under, Root, Fence}
use Rattle.formula.specs.declared.Kind.{Kind}
use Rattle.formula.specs.declared.Kind.TheVariants.{Scripted, Fraction}
use Rattle.formula.specs.declared.Opening.{Opening}
use Rattle.formula.specs.declared.Opening.TheVariants.{NoItem, Fields, Kern, Restyle, Choice}
use Rattle.formula.specs.declared.FieldHead.{FieldHead}
use Rattle.formula.specs.declared.FieldHead.TheVariants.{NoField, Empty, Symbol, Sublist, CutSublist}
use Rattle.formula.specs.declared.Fault.TheVariants.{Unreadable}
use Rattle.formula.specs.declared.FaultAt.{FaultAt}
use Rattle.formula.specs.Format.{long_format, formula_limit, depth_limit}
use Rattle.formula.specs.Tree.{Items, Item, Field, nil, cons, list, opening_bytes, holds_list, short_opening_bytes, sublist_bytes, items_bytes, item_bytes, field_bytes}
use Rattle.formula.specs.Heads.{opening_of, field_head}
use Rattle.formula.specs.Reading.{Read, good, fault, read, read_formula_under, read_formula}
use Rattle.formula.specs.Values.{told}
use Rattle.formula.specs.Places.{tree_in, IsGood, Readable, tree_of, head_bytes, contents, field_of, GoodField, list_of, GoodList, choice_lists, has_third, head_at, second, third, third_end, end, list_place, item_size, field_in, third_in, list_in, item_of, GoodFieldAt, GoodThird, GoodListAt, GoodHeld, GoodItem, second_field, third_field, second_list, third_list, fourth_list}
use Rattle.formula.specs.HeadLaws.{list_opening_lem, opening_some, contents_shorter, opening_fits}
use Rattle.formula.specs.ReadingLaws.{by_length, FieldIs, IsHeld, FieldAtIs, ThirdIs, ItemIs, item_map, list_place_in, size_fits_lem, size_some, Below, read_none, list_good, agree}

-- ---- a readable list

pub known : (s : List ℕ) → Readable s → read (length s) s ≡ good (tree_of s)
unfolding Readable tree_of
known s h = go (read (length s) s) h
  where
    go : (x : Read) → IsGood x → x ≡ good (tree_in x)
    go (good l) h = refl
    go (fault why place) h = absurd h

own : (s : List ℕ) (d : ℕ) (l : Items) → read d s ≡ good l → read (length s) s ≡ good l
own s d l e = agree s d (length s) l e (omega arith)

pub readable_of : (s : List ℕ) (d : ℕ) (l : Items) → read d s ≡ good l → Readable s
unfolding Readable
readable_of s d l e = subst IsGood (sym (own s d l e)) tt

pub tree_is : (s : List ℕ) (d : ℕ) (l : Items) → read d s ≡ good l → tree_of s ≡ l
unfolding tree_of
tree_is s d l e = ap tree_in (own s d l e)

pub tree_none : (s : List ℕ) → length s ≡ 0 → Readable s × (tree_of s ≡ nil)
tree_none s h = (readable_of s 0 nil (read_none long_format 0 s h), tree_is s 0 nil (read_none long_format 0 s h))

Known : List ℕ → Items → Type 0
Known r l = Readable r × (tree_of r ≡ l)

field_known : (s : List ℕ) (h : FieldHead) (f : Field) → FieldIs Known s h f → GoodField s h × (f ≡ field_of s h)
unfolding Known
field_known s NoField f i = absurd i
field_known s Empty f i = (tt, i)
field_known s (Symbol family code) f i = (tt, i)
field_known s (Sublist opening n) f i = (i.1.0, i.2 ∙ ap list (sym i.1.1))
field_known s CutSublist f i = absurd i

list_known : (s : List ℕ) (h : FieldHead) (l : Items) → FieldIs Known s h (list l) → GoodList s h × (l ≡ list_of s h)
unfolding Known
list_known s NoField l i = absurd i
list_known s Empty l i = let z : ◌≡◌ {A = ℕ} 0 1 = cc in absurd (omega arith)
list_known s (Symbol family code) l i = let z : ◌≡◌ {A = ℕ} 0 1 = cc in absurd (omega arith)
list_known s (Sublist opening n) l i = (i.1.0, (cc))
list_known s CutSublist l i = absurd i

third_known : (s : List ℕ) (has : Bool) (at : ℕ) (f : Field) → ThirdIs Known s has at f →
    GoodThird s has at × (f ≡ third_in s has at)
third_known s true at f i = field_known (drop at s) (head_at s at) f i
third_known s false at f i = (tt, i)

held_known : (s : List ℕ) (only : Bool) (at : ℕ) (f : Field) → FieldAtIs Known s at f → IsHeld only f → GoodHeld s only at
held_known s true at f i h = (list_known (drop at s) (head_at s at) h.0 (rw h.1 at i)).0
held_known s false at f i h = tt

item_known : (s : List ℕ) (o : Opening) (i : Item) → ItemIs Known s o i → GoodItem s o × (i ≡ item_of s o)
item_known s NoItem i h = absurd h
item_known s (Fields kind) i h =
    let first = opening_bytes kind in
    let a = field_known (drop first s) (head_at s first) h.a h.a_is in
    let b = field_known (drop (second s kind) s) (head_at s (second s kind)) h.b h.b_is in
    let c = third_known s (has_third kind) (third s kind) h.c h.c_is in
    let d = held_known s (holds_list kind) first h.a h.a_is h.held in
    ((a.0, b.0, c.0, d), (cc))
item_known s (Kern n) i h = (tt, h)
item_known s (Restyle n) i h = (tt, h)
item_known s Choice i h =
    let each : (n : ℕ) → n < choice_lists → GoodListAt s (list_place s n) × (h.lists n ≡ list_in s n) =
    λ n l. list_known (drop (list_place s n) s) (head_at s (list_place s n)) (h.lists n) (h.are n l) in
    let a = (each 0 (omega arith)).1 in
    let b = (each 1 (omega arith)).1 in
    let c = (each 2 (omega arith)).1 in
    let d = (each 3 (omega arith)).1 in
    (λ n l. (each n l).0, (cc))

below_known : (d : ℕ) (r : List ℕ) (l : Items) → Below read d r l → Known r l
unfolding Known
below_known zero r l h = absurd h
below_known (suc d) r l h = (readable_of r d l h, tree_is r d l h)

-- what a readable list that opens with o is
pub record Stepped (s : List ℕ) (o : Opening) : Type 0 where
  pub some : 0 < item_size s o
  pub fits : item_size s o ≤ length s
  pub item : GoodItem s o
  pub rest : Readable (drop (item_size s o) s)
  pub tree : tree_of s ≡ cons (item_of s o) (tree_of (drop (item_size s o) s))

step_by : (s : List ℕ) → Readable s → 0 < length s → Stepped s (opening_of s)
step_by s r pos =
    let d = length s in
    let o = opening_of s in
    let rest = drop (item_size s o) s in
    let g = list_good d s (tree_of s) pos (known s r) in
    let is = item_map (Below read d) Known s (λ r l k. below_known d r l) o g.first g.first_is in
    let i = item_known s o g.first is in
    record {
      some = size_some (Below read d) s o g.first g.first_is;
      fits = size_fits_lem s;
      item = i.0;
      rest = readable_of rest d g.others g.others_are;
      tree = g.is ∙ ap₂ cons i.1 (sym (tree_is rest d g.others g.others_are));
    }

pub step : (s : List ℕ) (o : Opening) → opening_of s ≡ o → Readable s → 0 < length s → Stepped s o
step s o e r pos = subst (Stepped s) e (step_by s r pos)

-- ---- an item with fields

-- a field is at least one byte long
pub good_some : (s : List ℕ) (h : FieldHead) → field_head s ≡ h → GoodField s h → 0 < head_bytes h
good_some s NoField e g = absurd g
good_some s Empty e g = omega arith
good_some s (Symbol family code) e g = omega arith
good_some s (Sublist opening n) e g = omega (arith, list_opening_lem s opening n e, opening_some n)
good_some s CutSublist e g = absurd g

pub third_good : (s : List ℕ) (has : Bool) (at : ℕ) → has ≡ true → GoodThird s has at → GoodFieldAt s at
third_good s true at e g = g
third_good s false at e g = let z : ◌≡◌ {A = ℕ} 0 1 = cc in absurd (omega arith)

-- it opens with a mark
pub opening_long : (kind : Kind) → 2 ≤ opening_bytes kind
opening_long (Scripted (Atom class limits)) = omega arith
opening_long (Scripted Over) = omega arith
opening_long (Scripted Under) = omega arith
opening_long (Scripted (Root sign)) = omega arith
opening_long (Scripted (Fence left right)) = omega arith
opening_long (Fraction bar) = omega arith

-- its fields and what stands behind it are good, and they stand one behind the other
pub record Noad (s : List ℕ) (kind : Kind) : Type 0 where
  pub x : GoodFieldAt s (opening_bytes kind)
  pub y : GoodFieldAt s (second s kind)
  pub z : GoodThird s (has_third kind) (third s kind)
  pub held : GoodHeld s (holds_list kind) (opening_bytes kind)
  pub rest : Readable (drop (end s kind) s)
  pub opened : 2 ≤ opening_bytes kind
  pub first_in : opening_bytes kind < second s kind
  pub second_in : second s kind < third s kind
  pub third_in_lem : third s kind ≤ end s kind
  pub long : 5 ≤ end s kind
  pub end_in : end s kind ≤ length s

pub noad_at_lem : (s : List ℕ) (kind : Kind) → opening_of s ≡ Fields kind → Readable s → Noad s kind
noad_at_lem s kind e readable =
    let two = opening_long kind in
    let p = step s (Fields kind) e readable (omega (arith, opening_fits s (Fields kind) e)) in
    let a = some (opening_bytes kind) p.item.0 in
    let b = some (second s kind) p.item.1 in
    record {
      x = p.item.0;
      y = p.item.1;
      z = p.item.2;
      held = p.item.3;
      rest = p.rest;
      opened = two;
      first_in = omega arith;
      second_in = omega arith;
      third_in_lem = from (has_third kind) (third s kind);
      long = five kind (omega arith) (omega arith) p.item.2;
      end_in = p.fits;
    }
  where
    some : (at : ℕ) → GoodFieldAt s at → 0 < head_bytes (head_at s at)
    some at = good_some (drop at s) (head_at s at) refl

    from : (has : Bool) (at : ℕ) → at ≤ third_end s has at
    from true at = omega arith
    from false at = omega arith

    five : (kind : Kind) → opening_bytes kind < second s kind → second s kind < third s kind →
        GoodThird s (has_third kind) (third s kind) → 5 ≤ end s kind
    five (Scripted base) a b g = omega (arith, opening_long (Scripted base), some (third s (Scripted base)) g)
    five (Fraction bar) a b g = omega arith

-- a field that is a list that reads, as a field
pub list_good_field : (s : List ℕ) (h : FieldHead) → GoodList s h → GoodField s h × (field_of s h ≡ list (list_of s h))
list_good_field s NoField g = absurd g
list_good_field s Empty g = absurd g
list_good_field s (Symbol family code) g = absurd g
list_good_field s (Sublist opening n) g = (g, refl)
list_good_field s CutSublist g = absurd g

-- ---- a choice

list_long : (s : List ℕ) (h : FieldHead) → field_head s ≡ h → GoodList s h → short_opening_bytes ≤ head_bytes h
list_long s NoField e g = absurd g
list_long s Empty e g = absurd g
list_long s (Symbol family code) e g = absurd g
list_long s (Sublist opening n) e g = omega (arith, list_opening_lem s opening n e, opening_some n)
list_long s CutSublist e g = absurd g

-- its lists and what stands behind it are good, and they stand one behind the other
pub record Chosen (s : List ℕ) : Type 0 where
  pub lists : (n : ℕ) → n < choice_lists → GoodListAt s (list_place s n)
  pub rest : Readable (drop (list_place s choice_lists) s)
  pub in_order : (n : ℕ) → n < choice_lists → list_place s n + short_opening_bytes ≤ list_place s (suc n)
  pub places_in : (n : ℕ) → list_place s n ≤ length s

pub choice_at_lem : (s : List ℕ) → opening_of s ≡ Choice → Readable s → Chosen s
choice_at_lem s e readable =
    let opened = opening_fits s Choice e in
    let p = step s Choice e readable (omega arith) in
    record {
      lists = p.item;
      rest = p.rest;
      in_order = λ n l. omega (arith, list_long (drop (list_place s n) s) (head_at s (list_place s n)) refl (p.item n l));
      places_in = λ n. list_place_in s n opened;
    }

-- ---- the bytes that a tree is written in

module _ (s : List ℕ) (ih : (r : List ℕ) → length r < length s → Readable r → items_bytes (tree_of r) ≡ length r) where
  field_by_bytes : (at : ℕ) → GoodFieldAt s at → field_bytes (field_in s at) ≡ head_bytes (head_at s at)
  unfolding field_bytes
  field_by_bytes at g = go (head_at s at) refl g
    where
      go : (h : FieldHead) → head_at s at ≡ h → GoodField (drop at s) h → field_bytes (field_of (drop at s) h) ≡ head_bytes h
      go NoField e g = absurd g
      go Empty e g = refl
      go (Symbol family code) e g = refl
      go (Sublist opening n) e g =
          let k = contents_shorter (drop at s) opening n e in
          let long = ih (contents opening n (drop at s)) (omega (arith, length-drop at s)) g ∙ k.0 in
          ap sublist_bytes long ∙ ap (λ (o : ℕ). o + n) (sym (list_opening_lem (drop at s) opening n e))
      go CutSublist e g = absurd g

  list_by_bytes : (n : ℕ) → GoodListAt s (list_place s n) →
      sublist_bytes (items_bytes (list_in s n)) ≡ head_bytes (head_at s (list_place s n))
  unfolding field_bytes
  list_by_bytes n g =
      let is = list_good_field (drop (list_place s n) s) (head_at s (list_place s n)) g in
      ap field_bytes (sym is.1) ∙ field_by_bytes (list_place s n) is.0

  item_by_bytes : (o : Opening) → GoodItem s o → item_bytes (item_of s o) ≡ item_size s o
  unfolding item_bytes field_bytes
  item_by_bytes NoItem g = absurd g
  item_by_bytes (Fields kind) g =
      let a = field_by_bytes (opening_bytes kind) g.0 in
      let b = field_by_bytes (second s kind) g.1 in
      go kind a b g.2
    where
      go : (kind : Kind) → field_bytes (field_in s (opening_bytes kind)) ≡ head_bytes (head_at s (opening_bytes kind)) →
          field_bytes (field_in s (second s kind)) ≡ head_bytes (head_at s (second s kind)) →
          GoodThird s (has_third kind) (third s kind) → item_bytes (item_of s (Fields kind)) ≡ item_size s (Fields kind)
      go (Scripted base) a b g = omega (arith, field_by_bytes (third s (Scripted base)) g)
      go (Fraction bar) a b g = omega arith
  item_by_bytes (Kern n) g = refl
  item_by_bytes (Restyle n) g = refl
  item_by_bytes Choice g =
      let each : (n : ℕ) → n < choice_lists → sublist_bytes (items_bytes (list_in s n)) ≡ head_bytes (head_at s (list_place s n)) =
      λ n l. list_by_bytes n (g n l) in
      omega (arith, each 0 (omega arith), each 1 (omega arith), each 2 (omega arith), each 3 (omega arith))

Written : List ℕ → Type 0
Written s = Readable s → items_bytes (tree_of s) ≡ length s

written_step : (s : List ℕ) → ((r : List ℕ) → length r < length s → Written r) → Written s
unfolding Written items_bytes
written_step s ih r = go (length s) refl
  where
    go : (n : ℕ) → length s ≡ n → items_bytes (tree_of s) ≡ length s
    go zero z = ap items_bytes (tree_none s z).1 ∙ sym z
    go (suc n) z =
        let p = step_by s r (omega arith) in
        let size = item_size s (opening_of s) in
        let k : length (drop size s) ≡ length s - size = length-drop size s in
        let first = item_by_bytes s ih (opening_of s) p.item in
        let others = ih (drop size s) (omega arith) p.rest in
        ap items_bytes p.tree ∙ omega arith

pub items_bytes_lem : (s : List ℕ) → Readable s → items_bytes (tree_of s) ≡ length s
unfolding Written
items_bytes_lem = by_length Written written_step

pub item_bytes_lem : (s : List ℕ) (o : Opening) → GoodItem s o → item_bytes (item_of s o) ≡ item_size s o
item_bytes_lem s = item_by_bytes s (λ r l. items_bytes_lem r)

pub field_bytes_lem : (s : List ℕ) (at : ℕ) → GoodFieldAt s at → field_bytes (field_in s at) ≡ head_bytes (head_at s at)
field_bytes_lem s = field_by_bytes s (λ r l. items_bytes_lem r)

pub list_bytes : (s : List ℕ) (n : ℕ) → GoodListAt s (list_place s n) →
    sublist_bytes (items_bytes (list_in s n)) ≡ head_bytes (head_at s (list_place s n))
list_bytes s = list_by_bytes s (λ r l. items_bytes_lem r)

-- ---- the places of fields and of lists, from the tree

module _ (s : List ℕ) (kind : Kind) (noad : Noad s kind) where
  pub second_field_lem : second_field kind (field_in s (opening_bytes kind)) ≡ second s kind
  second_field_lem = ap (λ (n : ℕ). opening_bytes kind + n) (field_bytes_lem s (opening_bytes kind) noad.x)

  pub third_field_lem : third_field kind (field_in s (opening_bytes kind)) (field_in s (second s kind)) ≡ third s kind
  third_field_lem = ap₂ ◌+◌ second_field_lem (field_bytes_lem s (second s kind) noad.y)

-- those of a choice
pub record ListsStand (s : List ℕ) : Type 0 where
  pub at_second : second_list (list_in s 0) ≡ list_place s 1
  pub at_third : third_list (list_in s 0) (list_in s 1) ≡ list_place s 2
  pub at_fourth : fourth_list (list_in s 0) (list_in s 1) (list_in s 2) ≡ list_place s 3

pub lists_stand : (s : List ℕ) → Chosen s → ListsStand s
lists_stand s chosen =
    let a = list_bytes s 0 (chosen.lists 0 (omega arith)) in
    let b = list_bytes s 1 (chosen.lists 1 (omega arith)) in
    let c = list_bytes s 2 (chosen.lists 2 (omega arith)) in
    record { at_second = omega arith; at_third = omega arith; at_fourth = omega arith }

-- ---- a formula

told_good : (x : Read) → told x ≡ Ok tt → (l : Items) × (x ≡ good l)
unfolding told
told_good (good l) e = (l, refl)
told_good (fault why place) e = let z : ◌≡◌ {A = ℕ} 0 1 = cc in absurd (omega arith)

-- the formula is small, readable, and its tree is that of its bytes
pub record FormulaIs (s : List ℕ) : Type 0 where
  pub small : length s ≤ formula_limit
  pub readable : Readable s
  pub is : read_formula s ≡ good (tree_of s)

pub formula_good : (s : List ℕ) → told (read_formula s) ≡ Ok tt → FormulaIs s
unfolding read_formula_under told
formula_good s e = go (ltb formula_limit (length s)) refl e
  where
    by : Bool → Read
    by t = elim t [ true ↦ fault Unreadable 0 | false ↦ read (depth_limit - 1) s ]

    go : (t : Bool) → ltb formula_limit (length s) ≡ t → told (by t) ≡ Ok tt → FormulaIs s
    go true q e = let z : ◌≡◌ {A = ℕ} 0 1 = cc in absurd (omega arith)
    go false q e =
        let l = told_good (read (depth_limit - 1) s) e in
        record {
          small = ltb-false formula_limit (length s) q;
          readable = readable_of s (depth_limit - 1) l.0 l.1;
          is = ap by q ∙ l.1 ∙ ap good (sym (tree_is s (depth_limit - 1) l.0 l.1));
        }

pub formula_fault : (s : List ℕ) (e : FaultAt) → told (read_formula s) ≡ Err e → read_formula s ≡ fault e.fault e.place
unfolding told
formula_fault s e is = go (read_formula s) is
  where
    go : (x : Read) → told x ≡ Err e → x ≡ fault e.fault e.place
    go (good l) is = let z : ◌≡◌ {A = ℕ} 0 1 = cc in absurd (omega arith)
    go (fault n p) is = ap (λ (f : FaultAt). fault f.fault f.place) (let own : record { fault = n; place = p } ≡ e = cc in own)
