-- Laws of `read`.
--     FieldIs, ItemIs      a field, an item, is this tree by its head, with P for "this list of bytes is these items":
--                          one predicate for every kind; `item_map` changes the P
--     field_end_in, size_fits_lem, size_some     a field and an item lie in their list, and an item takes a byte at least
--     item_got, got_item   `item_by` gives an item exactly where `ItemIs` holds, and the place behind it is `item_size`
--     Alike, enough        under two formats, and in however many steps, parts are read alike: the same, or the first is at fault
--     read_step            the equation of a reading with no number of steps in it
--     read_on              what reads under a format reads to the same tree under the one in use
--     list_good, good_list a list that is not empty reads exactly where its first item and the rest do
--     agree                a list that reads with some number of levels reads to the same tree with any number that is
--                          not less, or not less than the list is long
-- Assumes nothing.
use Rattle.std.specs.Prelude.{◌≡◌, ◌⊎◌, Bool, true, false, length, drop}
use Rattle.std.proofs.Math.Path.{refl, ap, ap₂}
use Rattle.std.proofs.Common.{sym, subst, ◌∙◌}
use Rattle.std.proofs.Math.Logic.{inl, inr, ⊎_elim, ⊎_map}
use mathlib.Core.List.{List, [], ◌∷◌}
use Prim.Native.Nat.{ℕ, zero, suc, ◌+◌, ◌-◌, ◌≤◌, ◌<◌, min}
use native.Mathlib.Omega.{arith}
use Rattle.std.proofs.Math.ListN.{length-drop}
use Rattle.formula.specs.declared.Kind.{Kind}
use Rattle.formula.specs.declared.Kind.TheVariants.{Scripted, Fraction}
use Rattle.formula.specs.declared.Opening.{Opening}
use Rattle.formula.specs.declared.Opening.TheVariants.{NoItem, Fields, Kern, Restyle, Choice}
use Rattle.formula.specs.declared.FieldHead.{FieldHead}
use Rattle.formula.specs.declared.FieldHead.TheVariants.{NoField, Empty, Symbol, Sublist, CutSublist}
use Rattle.formula.specs.declared.Fault.{Fault}
use Rattle.formula.specs.Format.{Format, long_format}
use Rattle.formula.specs.Tree.{Items, Item, Field, nil, cons, noad, kern, restyle, choice, empty, symbol, list, opening_bytes, holds_list, choice_opening_bytes}
use Rattle.formula.specs.Heads.{opening_of, field_head_under, field_head}
use Rattle.formula.specs.Reading.{Read, good, fault, Got, got, stopped, ◌then_at◌, list_got, field_by, only_list, held_in, field_at, first_at, third_at, noad_at, list_at, choice_at, opened_by, item_by, before, rest_by, list_by, read_by, read_under, read}
use Rattle.formula.specs.Places.{head_bytes, contents, choice_lists, has_third, opened_bytes, head_at, field_end, second, third, third_end, end, list_place, item_size}
use Rattle.formula.specs.HeadLaws.{head_fits, list_opening_lem, opening_some, contents_shorter, head_under, list_under, opening_fits}

pub by_length : (P : List ℕ → Type 0) → ((s : List ℕ) → ((r : List ℕ) → length r < length s → P r) → P s) →
    (s : List ℕ) → P s
by_length P step s = go (suc (length s)) s (omega arith)
  where
    go : (f : ℕ) (s : List ℕ) → length s < f → P s
    go zero s h = absurd (omega arith)
    go (suc f) s h = step s (λ r l. go f r (omega arith))

-- ---- a field and an item by their heads

-- what may be said of a list of bytes and of items
abbrev pub Says : Type 1
Says = List ℕ → Items → Type 0

abbrev pub FieldIs : Says → List ℕ → FieldHead → Field → Type 0
FieldIs P s NoField f = ⊥
FieldIs P s Empty f = f ≡ empty
FieldIs P s (Symbol family code) f = f ≡ symbol family code
FieldIs P s (Sublist opening n) f = (l : Items) × P (contents opening n s) l × (f ≡ list l)
FieldIs P s CutSublist f = ⊥

-- what must be a list is one
abbrev pub IsHeld : Bool → Field → Type 0
IsHeld true f = (l : Items) × (f ≡ list l)
IsHeld false f = Unit {0}

module _ (P : Says) (s : List ℕ) where
  abbrev pub FieldAtIs : ℕ → Field → Type 0
  FieldAtIs at f = FieldIs P (drop at s) (head_at s at) f

  abbrev pub ThirdIs : Bool → ℕ → Field → Type 0
  ThirdIs true at f = FieldAtIs at f
  ThirdIs false at f = f ≡ empty

  pub record NoadIs (kind : Kind) (i : Item) : Type 0 where
    pub a : Field
    pub b : Field
    pub c : Field
    pub a_is : FieldAtIs (opening_bytes kind) a
    pub b_is : FieldAtIs (second s kind) b
    pub c_is : ThirdIs (has_third kind) (third s kind) c
    pub held : IsHeld (holds_list kind) a
    pub is : i ≡ noad kind a b c

  -- list number n of a choice is `lists n`
  pub record ChoiceIs (i : Item) : Type 0 where
    pub lists : ℕ → Items
    pub are : (n : ℕ) → n < choice_lists → FieldAtIs (list_place s n) (list (lists n))
    pub is : i ≡ choice (lists 0) (lists 1) (lists 2) (lists 3)

  abbrev pub ItemIs : Opening → Item → Type 0
  ItemIs NoItem i = ⊥
  ItemIs (Fields kind) i = NoadIs kind i
  ItemIs (Kern n) i = i ≡ kern n.0
  ItemIs (Restyle n) i = i ≡ restyle n
  ItemIs Choice i = ChoiceIs i

-- a field is at least one byte long
pub head_some : (P : Says) (s : List ℕ) (h : FieldHead) (f : Field) → field_head s ≡ h → FieldIs P s h f → 0 < head_bytes h
head_some P s NoField f e i = absurd i
head_some P s Empty f e i = omega arith
head_some P s (Symbol family code) f e i = omega arith
head_some P s (Sublist opening n) f e i = omega (arith, list_opening_lem s opening n e, opening_some n)
head_some P s CutSublist f e i = absurd i

module _ (P Q : Says) (s : List ℕ)
    (to : (r : List ℕ) (l : Items) → length r < length s → P r l → Q r l) where
  field_map : (at : ℕ) (f : Field) → FieldAtIs P s at f → FieldAtIs Q s at f
  field_map at f i = go (head_at s at) refl i
    where
      go : (h : FieldHead) → head_at s at ≡ h → FieldIs P (drop at s) h f → FieldIs Q (drop at s) h f
      go NoField e i = i
      go Empty e i = i
      go (Symbol family code) e i = i
      go (Sublist opening n) e i =
          let k = contents_shorter (drop at s) opening n e in
          (i.0, to (contents opening n (drop at s)) i.0 (omega (arith, length-drop at s)) i.1, i.2)
      go CutSublist e i = i

  third_map : (has : Bool) (at : ℕ) (f : Field) → ThirdIs P s has at f → ThirdIs Q s has at f
  third_map true at f i = field_map at f i
  third_map false at f i = i

  pub item_map : (o : Opening) (i : Item) → ItemIs P s o i → ItemIs Q s o i
  item_map NoItem i h = h
  item_map (Fields kind) i h =
      record {
        a = h.a;
        b = h.b;
        c = h.c;
        a_is = field_map (opening_bytes kind) h.a h.a_is;
        b_is = field_map (second s kind) h.b h.b_is;
        c_is = third_map (has_third kind) (third s kind) h.c h.c_is;
        held = h.held;
        is = h.is;
      }
  item_map (Kern n) i h = h
  item_map (Restyle n) i h = h
  item_map Choice i h =
      record {
        lists = h.lists;
        are = λ n l. field_map (list_place s n) (list (h.lists n)) (h.are n l);
        is = h.is;
      }

-- ---- an item lies in its list

pub field_end_in : (s : List ℕ) (at : ℕ) → at ≤ length s → field_end s at ≤ length s
field_end_in s at h = omega (arith, head_fits (drop at s) (head_at s at) refl, length-drop at s)

third_end_in : (s : List ℕ) (has : Bool) (at : ℕ) → at ≤ length s → third_end s has at ≤ length s
third_end_in s true at h = field_end_in s at h
third_end_in s false at h = h

pub list_place_in : (s : List ℕ) (n : ℕ) → choice_opening_bytes ≤ length s → list_place s n ≤ length s
list_place_in s zero h = h
list_place_in s (suc n) h = field_end_in s (list_place s n) (list_place_in s n h)

size_by : (s : List ℕ) (o : Opening) → opened_bytes o ≤ length s → item_size s o ≤ length s
size_by s NoItem h = h
size_by s (Fields kind) h =
    third_end_in s (has_third kind) (third s kind) (field_end_in s (second s kind) (field_end_in s (opening_bytes kind) h))
size_by s (Kern n) h = h
size_by s (Restyle n) h = h
size_by s Choice h = list_place_in s choice_lists h

pub size_fits_lem : (s : List ℕ) → item_size s (opening_of s) ≤ length s
size_fits_lem s = size_by s (opening_of s) (opening_fits s (opening_of s) refl)

third_end_some : (s : List ℕ) (has : Bool) (at : ℕ) → 0 < at → 0 < third_end s has at
third_end_some s true at h = omega arith
third_end_some s false at h = h

pub size_some : (P : Says) (s : List ℕ) (o : Opening) (i : Item) → ItemIs P s o i → 0 < item_size s o
size_some P s NoItem i h = absurd h
size_some P s (Fields kind) i h =
    third_end_some s (has_third kind) (third s kind)
    (omega (arith, head_some P (drop (opening_bytes kind) s) (head_at s (opening_bytes kind)) h.a refl h.a_is))
size_some P s (Kern n) i h = omega arith
size_some P s (Restyle n) i h = omega arith
size_some P s Choice i h = omega arith

-- ---- `item_by` gives an item exactly where `ItemIs` holds

abbrev pub Reader : Type 0
Reader = ℕ → List ℕ → Read

-- read by R on the level below
abbrev pub Below : Reader → ℕ → List ℕ → Items → Type 0
Below R zero r l = ⊥
Below R (suc levels) r l = R levels r ≡ good l

stopped_got : {A B : Type 0} {why : Fault} {place : ℕ} {a : A} {e : ℕ} → stopped why place ≡ got a e → B
stopped_got q = let z : ◌≡◌ {A = ℕ} 0 1 = cc in absurd (omega arith)

fault_good : {B : Type 0} {why : Fault} {place : ℕ} {l : Items} → fault why place ≡ good l → B
fault_good q = let z : ◌≡◌ {A = ℕ} 0 1 = cc in absurd (omega arith)

then_got : {A B : Type 0} (g : Got A) (k : A → ℕ → Got B) (b : B) (e : ℕ) → (g then_at k) ≡ got b e →
    (a : A) × (m : ℕ) × (g ≡ got a m) × (k a m ≡ got b e)
then_got (got a m) k b e q = (a, m, refl, q)
then_got (stopped why place) k b e q = stopped_got q

list_got_lem : (at opening n : ℕ) (x : Read) (f : Field) (e : ℕ) → list_got at opening n x ≡ got f e →
    (l : Items) × (x ≡ good l) × (f ≡ list l) × (e ≡ at + opening + n)
unfolding list_got
list_got_lem at opening n (good l) f e q = (l, refl, (cc), (cc))
list_got_lem at opening n (fault why place) f e q = stopped_got q

only_got : (f : Field) (m : ℕ) (l : Items) (e : ℕ) → only_list f m ≡ got l e → (f ≡ list l) × (m ≡ e)
unfolding only_list
only_got empty m l e q = stopped_got q
only_got (symbol family code) m l e q = stopped_got q
only_got (list k) m l e q = ((cc), (cc))

held_got : (only : Bool) (f : Field) (m : ℕ) (g : Field) (e : ℕ) → held_in only f m ≡ got g e → (f ≡ g) × (m ≡ e) × IsHeld only g
unfolding held_in
held_got true f m g e q =
    let t = then_got (only_list f m) _ g e q in
    let o = only_got f m t.0 t.1 t.2 in
    ((cc), (cc), (t.0, (cc)))
held_got false f m g e q = ((cc), (cc), tt)

got_held : (only : Bool) (f : Field) (m : ℕ) → IsHeld only f → held_in only f m ≡ got f m
unfolding held_in only_list
got_held true f m i = rw i.1
got_held false f m i = refl

-- one of four lists, by its number
abbrev one_of : Items → Items → Items → Items → ℕ → Items
one_of d t sc ss zero = d
one_of d t sc ss (suc zero) = t
one_of d t sc ss (suc (suc zero)) = sc
one_of d t sc ss (suc (suc (suc n))) = ss

each_of : (P : ℕ → Items → Type 0) (d t sc ss : Items) → P 0 d → P 1 t → P 2 sc → P 3 ss →
    (n : ℕ) → n < choice_lists → P n (one_of d t sc ss n)
each_of P d t sc ss a b c e zero l = a
each_of P d t sc ss a b c e (suc zero) l = b
each_of P d t sc ss a b c e (suc (suc zero)) l = c
each_of P d t sc ss a b c e (suc (suc (suc zero))) l = e
each_of P d t sc ss a b c e (suc (suc (suc (suc n)))) l = absurd (omega arith)

module _ (R : Reader) where
  field_by_got : (levels at : ℕ) (s : List ℕ) (h : FieldHead) (f : Field) (e : ℕ) → field_by R levels at s h ≡ got f e →
      FieldIs (Below R levels) s h f × (e ≡ at + head_bytes h)
  unfolding field_by
  field_by_got levels at s NoField f e q = stopped_got q
  field_by_got levels at s Empty f e q = ((cc), (cc))
  field_by_got levels at s (Symbol family code) f e q = ((cc), (cc))
  field_by_got zero at s (Sublist opening n) f e q = stopped_got q
  field_by_got (suc levels) at s (Sublist opening n) f e q =
      let g = list_got_lem at opening n (R levels (contents opening n s)) f e q in
      ((g.0, g.1, g.2), omega (arith, g.3))
  field_by_got zero at s CutSublist f e q = stopped_got q
  field_by_got (suc levels) at s CutSublist f e q = stopped_got q

  got_field_by : (levels at : ℕ) (s : List ℕ) (h : FieldHead) (f : Field) → FieldIs (Below R levels) s h f →
      field_by R levels at s h ≡ got f (at + head_bytes h)
  unfolding field_by list_got
  got_field_by levels at s NoField f i = absurd i
  got_field_by levels at s Empty f i = rw i
  got_field_by levels at s (Symbol family code) f i = rw i
  got_field_by zero at s (Sublist opening n) f i = absurd i.1
  got_field_by (suc levels) at s (Sublist opening n) f i =
      let e : at + opening + n ≡ at + (opening + n) = omega arith in
      ap (list_got at opening n) i.1 ∙ ap₂ got (sym i.2) e
  got_field_by levels at s CutSublist f i = absurd i

  module _ (levels : ℕ) (s : List ℕ) where
    field_got : (at : ℕ) (f : Field) (e : ℕ) → field_at long_format R levels s at ≡ got f e →
        FieldAtIs (Below R levels) s at f × (e ≡ field_end s at)
    unfolding field_at
    field_got at f e q = field_by_got levels at (drop at s) (head_at s at) f e q

    got_field : (at : ℕ) (f : Field) → FieldAtIs (Below R levels) s at f → field_at long_format R levels s at ≡ got f (field_end s at)
    unfolding field_at
    got_field at f i = got_field_by levels at (drop at s) (head_at s at) f i

    first_got : (kind : Kind) (f : Field) (e : ℕ) → first_at long_format R levels s kind ≡ got f e →
        FieldAtIs (Below R levels) s (opening_bytes kind) f × (e ≡ second s kind) × IsHeld (holds_list kind) f
    unfolding first_at
    first_got kind f e q =
        let g = then_got (field_at long_format R levels s (opening_bytes kind)) _ f e q in
        let h = held_got (holds_list kind) g.0 g.1 f e g.3 in
        let a = field_got (opening_bytes kind) f e (cc) in
        (a.0, a.1, h.2)

    got_first : (kind : Kind) (f : Field) → FieldAtIs (Below R levels) s (opening_bytes kind) f → IsHeld (holds_list kind) f →
        first_at long_format R levels s kind ≡ got f (second s kind)
    unfolding first_at
    got_first kind f i h =
        ap (λ (g : Got Field). g then_at held_in (holds_list kind)) (got_field (opening_bytes kind) f i)
        ∙ got_held (holds_list kind) f (second s kind) h

    third_got : (kind : Kind) (at : ℕ) (f : Field) (e : ℕ) → third_at long_format R levels s kind at ≡ got f e →
        ThirdIs (Below R levels) s (has_third kind) at f × (e ≡ third_end s (has_third kind) at)
    unfolding third_at
    third_got (Scripted base) at f e q = field_got at f e q
    third_got (Fraction bar) at f e q = ((cc), (cc))

    got_third : (kind : Kind) (at : ℕ) (f : Field) → ThirdIs (Below R levels) s (has_third kind) at f →
        third_at long_format R levels s kind at ≡ got f (third_end s (has_third kind) at)
    unfolding third_at
    got_third (Scripted base) at f i = got_field at f i
    got_third (Fraction bar) at f i = rw i

    noad_got : (kind : Kind) (i : Item) (e : ℕ) → noad_at long_format R levels s kind ≡ got i e →
        NoadIs (Below R levels) s kind i × (e ≡ end s kind)
    unfolding noad_at
    noad_got kind i e q =
        let g₁ = then_got (first_at long_format R levels s kind) _ i e q in
        let f₁ = first_got kind g₁.0 g₁.1 g₁.2 in
        let g₂ = then_got (field_at long_format R levels s g₁.1) _ i e g₁.3 in
        let f₂ = field_got (second s kind) g₂.0 g₂.1 (ap (field_at long_format R levels s) (sym f₁.1) ∙ g₂.2) in
        let g₃ = then_got (third_at long_format R levels s kind g₂.1) _ i e g₂.3 in
        let f₃ = third_got kind (third s kind) g₃.0 g₃.1 (ap (third_at long_format R levels s kind) (sym f₂.1) ∙ g₃.2) in (
          record {
            a = g₁.0;
            b = g₂.0;
            c = g₃.0;
            a_is = f₁.0;
            b_is = f₂.0;
            c_is = f₃.0;
            held = f₁.2;
            is = (cc);
          },
          (cc),
        )

    got_noad : (kind : Kind) (i : Item) → NoadIs (Below R levels) s kind i → noad_at long_format R levels s kind ≡ got i (end s kind)
    unfolding noad_at
    got_noad kind i h =
        let a = got_first kind h.a h.a_is h.held in
        let b = got_field (second s kind) h.b h.b_is in
        let c = got_third kind (third s kind) h.c h.c_is in
        rw (a, b, c, h.is)

    sublist_got : (at : ℕ) (l : Items) (e : ℕ) → list_at long_format R levels s at ≡ got l e →
        FieldAtIs (Below R levels) s at (list l) × (e ≡ field_end s at)
    unfolding list_at
    sublist_got at l e q =
        let g = then_got (field_at long_format R levels s at) only_list l e q in
        let o = only_got g.0 g.1 l e g.3 in
        field_got at (list l) e (cc)

    got_sublist : (at : ℕ) (l : Items) → FieldAtIs (Below R levels) s at (list l) → list_at long_format R levels s at ≡ got l (field_end s at)
    unfolding list_at only_list
    got_sublist at l i = ap (λ (g : Got Field). g then_at only_list) (got_field at (list l) i)

    choice_got : (i : Item) (e : ℕ) → choice_at long_format R levels s ≡ got i e →
        ChoiceIs (Below R levels) s i × (e ≡ list_place s choice_lists)
    unfolding choice_at
    choice_got i e q =
        let lists : ℕ → Got Items = list_at long_format R levels s in
        let g₁ = then_got (lists (list_place s 0)) _ i e q in
        let f₁ = sublist_got (list_place s 0) g₁.0 g₁.1 g₁.2 in
        let g₂ = then_got (lists g₁.1) _ i e g₁.3 in
        let f₂ = sublist_got (list_place s 1) g₂.0 g₂.1 (ap lists (sym f₁.1) ∙ g₂.2) in
        let g₃ = then_got (lists g₂.1) _ i e g₂.3 in
        let f₃ = sublist_got (list_place s 2) g₃.0 g₃.1 (ap lists (sym f₂.1) ∙ g₃.2) in
        let g₄ = then_got (lists g₃.1) _ i e g₃.3 in
        let f₄ = sublist_got (list_place s 3) g₄.0 g₄.1 (ap lists (sym f₃.1) ∙ g₄.2) in
        let Is : ℕ → Items → Type 0 = λ n l. FieldAtIs (Below R levels) s (list_place s n) (list l) in (
          record {
            lists = one_of g₁.0 g₂.0 g₃.0 g₄.0;
            are = each_of Is g₁.0 g₂.0 g₃.0 g₄.0 f₁.0 f₂.0 f₃.0 f₄.0;
            is = (cc);
          },
          (cc),
        )

    got_choice : (i : Item) → ChoiceIs (Below R levels) s i → choice_at long_format R levels s ≡ got i (list_place s choice_lists)
    unfolding choice_at
    got_choice i h =
        let each : (n : ℕ) → n < choice_lists → list_at long_format R levels s (list_place s n) ≡ got (h.lists n) (list_place s (suc n)) =
        λ n l. got_sublist (list_place s n) (h.lists n) (h.are n l) in
        rw (each 0 (omega arith), each 1 (omega arith), each 2 (omega arith), each 3 (omega arith), h.is)

    pub item_got : (i : Item) (e : ℕ) → item_by long_format R levels s ≡ got i e →
        ItemIs (Below R levels) s (opening_of s) i × (e ≡ item_size s (opening_of s))
    unfolding item_by opened_by
    item_got i e q = go (opening_of s) q
      where
        go : (o : Opening) → opened_by long_format R levels s o ≡ got i e → ItemIs (Below R levels) s o i × (e ≡ item_size s o)
        go NoItem q = stopped_got q
        go (Fields kind) q = noad_got kind i e q
        go (Kern n) q = ((cc), (cc))
        go (Restyle n) q = ((cc), (cc))
        go Choice q = choice_got i e q

    pub got_item : (i : Item) → ItemIs (Below R levels) s (opening_of s) i →
        item_by long_format R levels s ≡ got i (item_size s (opening_of s))
    unfolding item_by opened_by
    got_item i h = go (opening_of s) h
      where
        go : (o : Opening) → ItemIs (Below R levels) s o i → opened_by long_format R levels s o ≡ got i (item_size s o)
        go NoItem h = absurd h
        go (Fields kind) h = got_noad kind i h
        go (Kern n) h = rw h
        go (Restyle n) h = rw h
        go Choice h = got_choice i h

-- ---- readings that are alike, part by part

abbrev Stops : {A : Type 0} → Got A → Type 0
Stops (got a m) = ⊥
Stops (stopped why place) = Unit {0}

abbrev Faulty : Read → Type 0
Faulty (good l) = ⊥
Faulty (fault why place) = Unit {0}

-- the same; or else, if D, the first stops
abbrev Alike : Type 0 → {A : Type 0} → Got A → Got A → Type 0
Alike D g h = (g ≡ h) ⊎ (D × Stops g)

abbrev ReadAlike : Type 0 → Read → Read → Type 0
ReadAlike D x y = (x ≡ y) ⊎ (D × Faulty x)

module _ (D : Type 0) where
  then_alike : {A B : Type 0} (g h : Got A) (k j : A → ℕ → Got B) → Alike D g h → ((a : A) (m : ℕ) → Alike D (k a m) (j a m)) →
      Alike D (g then_at k) (h then_at j)
  then_alike {A} g h k j (inl e) each = subst (λ (h : Got A). Alike D (g then_at k) (h then_at j)) e (go g)
    where
      go : (g : Got A) → Alike D (g then_at k) (g then_at j)
      go (got a m) = each a m
      go (stopped why place) = inl refl
  then_alike (got a m) h k j (inr (d, stops)) each = absurd stops
  then_alike (stopped why place) h k j (inr (d, stops)) each = inr (d, tt)

  list_got_alike : (at opening n : ℕ) (x y : Read) → ReadAlike D x y → Alike D (list_got at opening n x) (list_got at opening n y)
  unfolding list_got
  list_got_alike at opening n x y (inl e) = inl (ap (list_got at opening n) e)
  list_got_alike at opening n (good l) y (inr (d, faulty)) = absurd faulty
  list_got_alike at opening n (fault why place) y (inr (d, faulty)) = inr (d, tt)

  before_alike : (i : Item) (size : ℕ) (x y : Read) → ReadAlike D x y → ReadAlike D (before i size x) (before i size y)
  unfolding before
  before_alike i size x y (inl e) = inl (ap (before i size) e)
  before_alike i size (good l) y (inr (d, faulty)) = absurd faulty
  before_alike i size (fault why place) y (inr (d, faulty)) = inr (d, tt)

-- under two formats, by readers of shorter lists that are alike
module _ (D : Type 0) (f g : Format)
    (heads : (r : List ℕ) → (field_head_under f r ≡ field_head_under g r) ⊎ (D × (field_head_under f r ≡ NoField)))
    (R R' : Reader) (levels : ℕ) (s : List ℕ)
    (alike : (d : ℕ) (r : List ℕ) → length r < length s → ReadAlike D (R d r) (R' d r)) where
  field_alike : (at : ℕ) → Alike D (field_at f R levels s at) (field_at g R' levels s at)
  unfolding field_at field_by
  field_alike at = ⊎_elim same other (heads (drop at s))
    where
      go : (levels : ℕ) (h : FieldHead) → field_head_under f (drop at s) ≡ h →
          Alike D (field_by R levels at (drop at s) h) (field_by R' levels at (drop at s) h)
      go levels NoField e = inl refl
      go levels Empty e = inl refl
      go levels (Symbol family code) e = inl refl
      go zero (Sublist opening n) e = inl refl
      go (suc levels) (Sublist opening n) e =
          let k = contents_shorter (drop at s) opening n (list_under f (drop at s) opening n e) in
          list_got_alike D at opening n _ _ (alike levels (contents opening n (drop at s)) (omega (arith, length-drop at s)))
      go zero CutSublist e = inl refl
      go (suc levels) CutSublist e = inl refl

      same : field_head_under f (drop at s) ≡ field_head_under g (drop at s) → Alike D (field_at f R levels s at) (field_at g R' levels s at)
      same e =
          subst (λ (h : FieldHead). Alike D (field_at f R levels s at) (field_by R' levels at (drop at s) h)) e
          (go levels (field_head_under f (drop at s)) refl)

      other : D × (field_head_under f (drop at s) ≡ NoField) → Alike D (field_at f R levels s at) (field_at g R' levels s at)
      other (d, e) = inr (d, subst (λ (h : FieldHead). Stops (field_by R levels at (drop at s) h)) (sym e) tt)

  third_alike : (kind : Kind) (at : ℕ) → Alike D (third_at f R levels s kind at) (third_at g R' levels s kind at)
  unfolding third_at
  third_alike (Scripted base) at = field_alike at
  third_alike (Fraction bar) at = inl refl

  first_alike : (kind : Kind) → Alike D (first_at f R levels s kind) (first_at g R' levels s kind)
  unfolding first_at
  first_alike kind = then_alike D _ _ _ _ (field_alike (opening_bytes kind)) (λ x m. inl refl)

  noad_alike : (kind : Kind) → Alike D (noad_at f R levels s kind) (noad_at g R' levels s kind)
  unfolding noad_at
  noad_alike kind =
      then_alike D _ _ _ _ (first_alike kind) (λ a m.
      then_alike D _ _ _ _ (field_alike m) (λ b m.
      then_alike D _ _ _ _ (third_alike kind m) (λ c m. inl refl)))

  list_at_alike : (at : ℕ) → Alike D (list_at f R levels s at) (list_at g R' levels s at)
  unfolding list_at
  list_at_alike at = then_alike D _ _ _ _ (field_alike at) (λ x m. inl refl)

  choice_alike : Alike D (choice_at f R levels s) (choice_at g R' levels s)
  unfolding choice_at
  choice_alike =
      then_alike D _ _ _ _ (list_at_alike choice_opening_bytes) (λ d m.
      then_alike D _ _ _ _ (list_at_alike m) (λ t m.
      then_alike D _ _ _ _ (list_at_alike m) (λ sc m.
      then_alike D _ _ _ _ (list_at_alike m) (λ ss m. inl refl))))

  item_alike : Alike D (item_by f R levels s) (item_by g R' levels s)
  unfolding item_by opened_by
  item_alike = go (opening_of s)
    where
      go : (o : Opening) → Alike D (opened_by f R levels s o) (opened_by g R' levels s o)
      go NoItem = inl refl
      go (Fields kind) = noad_alike kind
      go (Kern n) = inl refl
      go (Restyle n) = inl refl
      go Choice = choice_alike

-- an item takes a byte at least, under any format
item_some : (f : Format) (R : Reader) (levels : ℕ) (s : List ℕ) (i : Item) (size : ℕ) → item_by f R levels s ≡ got i size →
    (0 < size) × (size ≤ length s)
item_some f R levels s i size e =
    ⊎_elim
    (λ same.
    let is = item_got R levels s i size (sym same ∙ e) in
    (omega (arith, size_some (Below R levels) s (opening_of s) i is.0, is.1), omega (arith, size_fits_lem s, is.1)))
    (λ other. absurd (subst Stops e other.1))
    (item_alike (Unit {0}) f long_format (λ r. ⊎_map (λ e. e) (λ none. (tt, none)) (head_under f r)) R R levels s (λ d r l. inl refl))

module _ (D : Type 0) (f g : Format)
    (heads : (r : List ℕ) → (field_head_under f r ≡ field_head_under g r) ⊎ (D × (field_head_under f r ≡ NoField))) where
  list_alike : (R R' : Reader) (levels : ℕ) (s : List ℕ) →
      ((d : ℕ) (r : List ℕ) → length r < length s → ReadAlike D (R d r) (R' d r)) →
      ReadAlike D (list_by f R levels s) (list_by g R' levels s)
  unfolding list_by rest_by
  list_alike R R' levels [] alike = inl refl
  list_alike R R' levels (b ∷ t) alike =
      ⊎_elim same (λ other. stops (item_by f R levels s) other) (item_alike D f g heads R R' levels s alike)
    where
      s : List ℕ
      s = b ∷ t

      go : (i : Got Item) → item_by f R levels s ≡ i → ReadAlike D (rest_by R levels s i) (rest_by R' levels s i)
      go (got i size) e =
          let some = item_some f R levels s i size e in
          before_alike D i size _ _ (alike levels (drop size s) (omega (arith, length-drop size s)))
      go (stopped why place) e = inl refl

      same : item_by f R levels s ≡ item_by g R' levels s → ReadAlike D (rest_by R levels s (item_by f R levels s)) (rest_by R' levels s (item_by g R' levels s))
      same e =
          subst (λ (i : Got Item). ReadAlike D (rest_by R levels s (item_by f R levels s)) (rest_by R' levels s i)) e
          (go (item_by f R levels s) refl)

      stops : (i : Got Item) → D × Stops i → ReadAlike D (rest_by R levels s i) (rest_by R' levels s (item_by g R' levels s))
      stops (got i size) (d, none) = absurd none
      stops (stopped why place) (d, none) = inr (d, tt)

  -- with more steps than bytes their number makes no difference
  enough : (m n levels : ℕ) (s : List ℕ) → length s < m → length s < n → ReadAlike D (read_by f m levels s) (read_by g n levels s)
  unfolding read_by
  enough zero n levels s h k = absurd (omega arith)
  enough (suc m) zero levels s h k = absurd (omega arith)
  enough (suc m) (suc n) levels s h k =
      list_alike (read_by f m) (read_by g n) levels s (λ d r l. enough m n d r (omega arith) (omega arith))

-- ---- the equation of a reading, with no number of steps in it

always : {x y : Read} → ReadAlike ⊥ x y → x ≡ y
always (inl e) = e
always (inr (none, faulty)) = absurd none

pub read_step : (f : Format) (levels : ℕ) (s : List ℕ) → read_under f levels s ≡ list_by f (read_under f) levels s
unfolding read_under read_by
read_step f levels s =
    always (list_alike ⊥ f f (λ r. inl refl) (read_by f (length s)) (read_under f) levels s
    (λ d r l. enough ⊥ f f (λ r. inl refl) (length s) (suc (length r)) d r l (omega arith)))

pub read_none : (f : Format) (levels : ℕ) (s : List ℕ) → length s ≡ 0 → read_under f levels s ≡ good nil
unfolding list_by
read_none f levels [] h = read_step f levels []
read_none f levels (b ∷ s) h = absurd (omega arith)

pub read_some : (f : Format) (levels : ℕ) (s : List ℕ) → 0 < length s →
    read_under f levels s ≡ rest_by (read_under f) levels s (item_by f (read_under f) levels s)
unfolding list_by
read_some f levels [] h = absurd (omega arith)
read_some f levels (b ∷ s) h = read_step f levels (b ∷ s)

-- what reads under a format reads to the same tree under the one in use
pub read_on : (f : Format) (levels : ℕ) (s : List ℕ) (l : Items) → read_under f levels s ≡ good l → read levels s ≡ good l
unfolding read_under
read_on f levels s l e =
    let n = suc (length s) in
    ⊎_elim (λ same. sym same ∙ e) (λ other. absurd (subst Faulty e other.1))
    (enough (Unit {0}) f long_format (λ r. ⊎_map (λ e. e) (λ none. (tt, none)) (head_under f r)) n n levels s (omega arith) (omega arith))

-- ---- a list that is not empty

-- the items of a list that is not empty: the first, and those of the rest
pub record ListIs (levels : ℕ) (s : List ℕ) (l : Items) : Type 0 where
  pub first : Item
  pub others : Items
  pub first_is : ItemIs (Below read levels) s (opening_of s) first
  pub others_are : read levels (drop (item_size s (opening_of s)) s) ≡ good others
  pub is : l ≡ cons first others

before_good : (i : Item) (size : ℕ) (x : Read) (l : Items) → before i size x ≡ good l →
    (r : Items) × (x ≡ good r) × (l ≡ cons i r)
unfolding before
before_good i size (good r) l e = (r, refl, (cc))
before_good i size (fault why place) l e = fault_good e

pub list_good : (levels : ℕ) (s : List ℕ) (l : Items) → 0 < length s → read levels s ≡ good l → ListIs levels s l
unfolding rest_by
list_good levels s l pos e = go (item_by long_format read levels s) refl (sym (read_some long_format levels s pos) ∙ e)
  where
    go : (g : Got Item) → item_by long_format read levels s ≡ g → rest_by read levels s g ≡ good l → ListIs levels s l
    go (got i size) q e =
        let is = item_got read levels s i size q in
        let b = before_good i size (read levels (drop size s)) l e in
        record {
          first = i;
          others = b.0;
          first_is = is.0;
          others_are = ap (λ (k : ℕ). read levels (drop k s)) (sym is.1) ∙ b.1;
          is = b.2;
        }
    go (stopped why place) q e = fault_good e

pub good_list : (levels : ℕ) (s : List ℕ) (l : Items) → 0 < length s → ListIs levels s l → read levels s ≡ good l
unfolding rest_by before
good_list levels s l pos h =
    read_some long_format levels s pos
    ∙ ap (rest_by read levels s) (got_item read levels s h.first h.first_is)
    ∙ ap (before h.first (item_size s (opening_of s))) h.others_are
    ∙ ap good (sym h.is)

-- ---- the number of levels

Agrees : List ℕ → Type 0
Agrees s = (d e : ℕ) (l : Items) → read d s ≡ good l → min d (length s) ≤ e → read e s ≡ good l

agree_step : (s : List ℕ) → ((r : List ℕ) → length r < length s → Agrees r) → Agrees s
unfolding Agrees
agree_step s ih d e l q h = go (length s) refl
  where
    below : (d e : ℕ) → min d (length s) ≤ e →
        (r : List ℕ) (l : Items) → length r < length s → Below read d r l → Below read e r l
    below zero e h r l k b = absurd b
    below (suc d) zero h r l k b = absurd (omega arith)
    below (suc d) (suc e) h r l k b = ih r k d e l b (omega arith)

    go : (n : ℕ) → length s ≡ n → read e s ≡ good l
    go zero z = read_none long_format e s z ∙ sym (read_none long_format d s z) ∙ q
    go (suc n) z =
        let g = list_good d s l (omega arith) q in
        let o = opening_of s in
        let some = size_some (Below read d) s o g.first g.first_is in
        let fits = size_fits_lem s in
        let rest = drop (item_size s o) s in
        let k : length rest ≡ length s - item_size s o = length-drop (item_size s o) s in
        good_list e s l (omega arith) (record {
          first = g.first;
          others = g.others;
          first_is = item_map (Below read d) (Below read e) s (below d e h) o g.first g.first_is;
          others_are = ih rest (omega arith) d e g.others g.others_are (omega arith);
          is = g.is;
        })

pub agree : (s : List ℕ) (d e : ℕ) (l : Items) → read d s ≡ good l → min d (length s) ≤ e → read e s ≡ good l
unfolding Agrees
agree = by_length Agrees agree_step
