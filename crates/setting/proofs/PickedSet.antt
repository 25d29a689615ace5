-- Asking why finds exactly the items that are set (change requests 7 and 12).
--     set_picked     an item that is set at a place is the one that `pick_in` finds there, with the style current at it
--     picked_set     what `pick_in` finds at a place is set there, in that style
-- The first goes down a path, a step at a time, and holds of any place in the list at its end. The second goes down the tree as `pick_in`
-- does: what it finds stands at a spot of the list or in a list field of an item at a spot (`SetIn`), and a path is made of these steps
-- from the outside in (`under`). Items before a list, and a choice around it, change its spots alone (`Wider`).
-- Assumes nothing.
use Rattle.std.specs.Prelude.{◌≡◌, Bool, true, false, ℕ, zero, suc, ◌+◌, ◌-◌, ◌≤◌, ◌<◌, leb}
use Rattle.std.proofs.Math.Path.{refl, ap}
use Rattle.std.proofs.Common.{sym, subst, ◌∙◌, ⊎_elim, le-leb, leb-true}
use Rattle.std.proofs.Math.Option.{Option, none, some}
use native.Mathlib.Omega.{arith}
use Rattle.formula.specs.declared.Kind.{Kind}
use Rattle.formula.specs.declared.Kind.TheVariants.{Scripted, Fraction}
use Rattle.formula.specs.Tree.{Items, Item, Field, nil, cons, noad, kern, restyle, choice, empty, symbol, list, opening_bytes, list_opening_bytes, sublist_bytes, items_bytes, item_bytes, field_bytes}
use Rattle.formula.specs.Places.{has_third, second_field, third_field}
use Rattle.formula.specs.PlacesLaws.{opening_long}
use Rattle.boxes.specs.declared.styles.Level.{Level}
use Rattle.boxes.specs.declared.styles.Level.TheVariants.{Display, Text, Script, Scriptscript}
use Rattle.boxes.specs.declared.styles.Style.{Style}
use Rattle.arrange.specs.Arrange.{first_style, second_style, third_style}
use Rattle.setting.specs.Setting.{taken, style_after, style_behind, taken_start}
use Rattle.setting.specs.Paths.{Arm, in_first, in_second, in_third, holding, field_style, field_place, HasField, join, choice_with, list_place, Spot, among, within, put, items_before, spot_style, spot_place, Step, holder, list_with, item_style, step_style, step_place, Path, whole, into, fill, style_at, place_of, HasFields}
use Rattle.setting.proofs.Lines.{style_after_join}
use Rattle.setting.specs.Picked.{Picked, picked, ◌or_in◌, if_reached, pick_in, pick_at, pick_field, picked_item}
use Rattle.setting.proofs.PickedLaws.{pick_in_here, pick_in_later, pick_field_before, pick_field_past, pick_at_choice, split, or_in_some, reached}
use Rattle.setting.specs.ItemOnPage.{Site, site_style, with_item, site_place, SetAt}

-- ---- how many bytes stand before what a list holds, and in all

bytes_join : (b r : Items) → items_bytes (join b r) ≡ items_bytes b + items_bytes r
unfolding items_bytes
bytes_join nil r = omega arith
bytes_join (cons i b) r = omega (arith, bytes_join b r)

chosen_in : (level : Level) (l a b c : Items) → list_place level a b c + sublist_bytes (items_bytes l) ≤ item_bytes (choice_with level l a b c)
unfolding item_bytes
chosen_in Display l a b c = omega arith
chosen_in Text l a b c = omega arith
chosen_in Script l a b c = omega arith
chosen_in Scriptscript l a b c = omega arith

spot_in_lem : (s : Style) (spot : Spot) (i : Item) → spot_place s spot i + item_bytes i ≤ items_bytes (put s spot i)
unfolding items_bytes
spot_in_lem s (among b r) i = omega (arith, bytes_join b (cons i r))
spot_in_lem s (within b x y z spot r) i =
    let t = style_after s b in
    let l = put t spot i in
    let c = choice_with t.level l x y z in
    omega (arith, bytes_join b (cons c r), chosen_in t.level l x y z, spot_in_lem t spot i)

third_in_lem : (kind : Kind) (x y : Field) (l : Items) → has_third kind ≡ true →
    third_field kind x y + sublist_bytes (items_bytes l) ≤ item_bytes (noad kind x y (list l))
unfolding item_bytes field_bytes
third_in_lem (Scripted base) x y l has = omega arith
third_in_lem (Fraction bar) x y l has = let z : ◌≡◌ {A = ℕ} 0 1 = cc in absurd (omega arith)

field_in_lem : (kind : Kind) (g : Arm) (l : Items) → HasField kind g →
    field_place kind g + sublist_bytes (items_bytes l) ≤ item_bytes (holding kind g l)
unfolding item_bytes field_bytes
field_in_lem kind (in_first y z) l has = omega arith
field_in_lem kind (in_second x z) l has = omega arith
field_in_lem kind (in_third x y) l has = third_in_lem kind x y l has

step_in : (s : Style) (t : Step) (l : Items) → HasField t.kind t.arm → step_place s t l + items_bytes l ≤ items_bytes (list_with s t l)
step_in s t l has = omega (arith, spot_in_lem s t.spot (holder t l), field_in_lem t.kind t.arm l has)

-- ---- what is found at a place of what a list holds is found in the list

pick_behind : (s : Style) (b r : Items) (k : ℕ) → pick_in s (items_bytes b + k) (join b r) ≡ pick_in (style_after s b) k r
unfolding items_bytes style_after
pick_behind s nil r k = let e : 0 + k ≡ k = omega arith in ap (λ (n : ℕ). pick_in s n r) e
pick_behind s (cons i b) r k =
    let n = item_bytes i + items_bytes b + k in
    let e : n - item_bytes i ≡ items_bytes b + k = omega arith in
    pick_in_later s n i (join b r) (omega arith)
    ∙ ap (λ (m : ℕ). pick_in (style_behind s i) m (join b r)) e
    ∙ pick_behind (style_behind s i) b r k

-- a choice with l for the style's level
pub pick_at_chosen : (s : Style) (place : ℕ) (l a b c : Items) →
    let start = list_place s.level a b c + list_opening_bytes (items_bytes l) in
    pick_at s place (choice_with s.level l a b c) ≡ if_reached (leb start place) (pick_in s (place - start) l)
pick_at_chosen s place l a b c = go s.level s.cramped
  where
    go : (level : Level) (cramped : Bool) →
        let start = list_place level a b c + list_opening_bytes (items_bytes l) in
        let t : Style = record { level = level; cramped = cramped } in
        pick_at t place (choice_with level l a b c) ≡ if_reached (leb start place) (pick_in t (place - start) l)
    go Display cramped = pick_at_choice (record { level = Display; cramped = cramped }) place l a b c
    go Text cramped = pick_at_choice (record { level = Text; cramped = cramped }) place a l b c
    go Script cramped = pick_at_choice (record { level = Script; cramped = cramped }) place a b l c
    go Scriptscript cramped = pick_at_choice (record { level = Scriptscript; cramped = cramped }) place a b c l

-- behind its opening
reached_in : (s : Style) (start k : ℕ) (l : Items) → if_reached (leb start (start + k)) (pick_in s (start + k - start) l) ≡ pick_in s k l
reached_in s start k l =
    let e : start + k - start ≡ k = omega arith in
    rw (le-leb start (start + k) (omega arith)) (ap (λ (n : ℕ). pick_in s n l) e)

pick_spot : (s : Style) (spot : Spot) (i : Item) (k : ℕ) → k < item_bytes i →
    pick_in s (spot_place s spot i + k) (put s spot i) ≡ pick_at (spot_style s spot) k i
pick_spot s (among b r) i k h = pick_behind s b (cons i r) k ∙ pick_in_here (style_after s b) k i r h
pick_spot s (within b x y z spot r) i k h =
    let t = style_after s b in
    let l = put t spot i in
    let c = choice_with t.level l x y z in
    let start = list_place t.level x y z + list_opening_bytes (items_bytes l) in
    let n = spot_place t spot i + k in
    let e : items_bytes b + start + spot_place t spot i + k ≡ items_bytes b + (start + n) = omega arith in
    ap (λ (m : ℕ). pick_in s m (join b (cons c r))) e
    ∙ pick_behind s b (cons c r) (start + n)
    ∙ pick_in_here t (start + n) c r (omega (arith, chosen_in t.level l x y z, spot_in_lem t spot i))
    ∙ pick_at_chosen t (start + n) l x y z
    ∙ reached_in t start n l
    ∙ pick_spot t spot i k h
    ∙ ap (λ (u : Style). pick_at u k i) (sym (style_after_join s b (items_before spot)))

-- within an item: in one of its fields
pick_at_in : (s : Style) (kind : Kind) (x y z : Field) (place : ℕ) → 0 < place →
    pick_at s place (noad kind x y z)
    ≡ pick_field (first_style kind s) (opening_bytes kind) place x
    or_in pick_field (second_style kind s) (second_field kind x) place y
    or_in pick_field (third_style s) (third_field kind x y) place z
unfolding pick_at
pick_at_in s kind x y z zero h = absurd (omega arith)
pick_at_in s kind x y z (suc n) h = refl

alone_first : (a : Option Picked) {b c : Option Picked} → b ≡ none → c ≡ none → a or_in b or_in c ≡ a
alone_first none e f = cc
alone_first (some q) e f = refl

alone_second : {a : Option Picked} (b : Option Picked) {c : Option Picked} → a ≡ none → c ≡ none → a or_in b or_in c ≡ b
alone_second none e f = rw (e, f) refl
alone_second (some q) e f = rw e refl

alone_third : {a b c : Option Picked} → a ≡ none → b ≡ none → a or_in b or_in c ≡ c
alone_third e f = rw (e, f) refl

pick_field_lem : (s : Style) (kind : Kind) (g : Arm) (l : Items) (k : ℕ) → k < items_bytes l →
    pick_at s (field_place kind g + list_opening_bytes (items_bytes l) + k) (holding kind g l) ≡ pick_in (field_style kind g s) k l
unfolding pick_field field_bytes
pick_field_lem s kind (in_first y z) l k h =
    let place = opening_bytes kind + list_opening_bytes (items_bytes l) + k in
    pick_at_in s kind (list l) y z place (omega (arith, opening_long kind))
    ∙ alone_first _ (pick_field_before (second_style kind s) (second_field kind (list l)) place y (omega arith))
    (pick_field_before (third_style s) (third_field kind (list l) y) place z (omega arith))
    ∙ reached_in (first_style kind s) (opening_bytes kind + list_opening_bytes (items_bytes l)) k l
pick_field_lem s kind (in_second x z) l k h =
    let at = second_field kind x in
    let place = at + list_opening_bytes (items_bytes l) + k in
    pick_at_in s kind x (list l) z place (omega (arith, opening_long kind))
    ∙ alone_second _ (pick_field_past (first_style kind s) (opening_bytes kind) place x (omega arith))
    (pick_field_before (third_style s) (third_field kind x (list l)) place z (omega arith))
    ∙ reached_in (second_style kind s) (at + list_opening_bytes (items_bytes l)) k l
pick_field_lem s kind (in_third x y) l k h =
    let at = third_field kind x y in
    let place = at + list_opening_bytes (items_bytes l) + k in
    pick_at_in s kind x y (list l) place (omega (arith, opening_long kind))
    ∙ alone_third (pick_field_past (first_style kind s) (opening_bytes kind) place x (omega arith))
    (pick_field_past (second_style kind s) (second_field kind x) place y (omega arith))
    ∙ reached_in (third_style s) (at + list_opening_bytes (items_bytes l)) k l

pick_step : (s : Style) (t : Step) (l : Items) (k : ℕ) → HasField t.kind t.arm → k < items_bytes l →
    pick_in s (step_place s t l + k) (list_with s t l) ≡ pick_in (step_style s t) k l
pick_step s t l k has h =
    let i = holder t l in
    let n = field_place t.kind t.arm + list_opening_bytes (items_bytes l) + k in
    let e : step_place s t l + k ≡ spot_place s t.spot i + n = omega arith in
    ap (λ (m : ℕ). pick_in s m (list_with s t l)) e
    ∙ pick_spot s t.spot i n (omega (arith, field_in_lem t.kind t.arm l has))
    ∙ pick_field_lem (item_style s t) t.kind t.arm l k h

pick_path : (s : Style) (p : Path) (l : Items) (k : ℕ) → HasFields p → k < items_bytes l →
    pick_in s (place_of s p l + k) (fill s p l) ≡ pick_in (style_at s p) k l
pick_path s whole l k has h = let e : 0 + k ≡ k = omega arith in ap (λ (n : ℕ). pick_in s n l) e
pick_path s (into p t) l k has h =
    let u = style_at s p in
    let around = list_with u t l in
    let n = step_place u t l + k in
    let e : place_of s p around + step_place u t l + k ≡ place_of s p around + n = omega arith in
    ap (λ (m : ℕ). pick_in s m (fill s p around)) e
    ∙ pick_path s p around n has.0 (omega (arith, step_in u t l has.1))
    ∙ pick_step u t l k has.1 h

-- every item with fields has bytes
item_some : (q : Picked) → 0 < item_bytes (picked_item q)
unfolding item_bytes
item_some q = omega (arith, opening_long q.kind)

pub set_picked : {s : Style} {place : ℕ} {formula : Items} {q : Picked} → SetAt s place formula q → pick_in s place formula ≡ some q
unfolding pick_at
set_picked {s} {place} {formula} {q} h =
    let t = h.site in
    let u = style_at s t.path in
    let i = picked_item q in
    let l = put u t.spot i in
    let k = spot_place u t.spot i in
    let some_bytes = item_some q in
    let there : place ≡ place_of s t.path l + k = sym h.place_is in
    let first : k ≡ k + 0 = omega arith in
    ap (λ (n : ℕ). pick_in s n formula) there
    ∙ ap (pick_in s (place_of s t.path l + k)) h.formula_is
    ∙ pick_path s t.path l k h.has_fields (omega (arith, spot_in_lem u t.spot i))
    ∙ ap (λ (n : ℕ). pick_in u n l) first
    ∙ pick_spot u t.spot i 0 some_bytes
    ∙ ap (λ (v : Style). some (picked v q.kind q.first q.second q.third)) h.style_is

-- ---- what is found is set: at a spot of the list, or in a list field of an item at a spot

data SetIn : Style → ℕ → Items → Picked → Type 0 where
  here : {s : Style} {place : ℕ} {l : Items} {q : Picked} (spot : Spot) → l ≡ put s spot (picked_item q) → spot_style s spot ≡ q.style →
      spot_place s spot (picked_item q) ≡ place → SetIn s place l q
  deeper : {s : Style} {place : ℕ} {l : Items} {q : Picked} (t : Step) (inner : Items) (k : ℕ) → l ≡ list_with s t inner →
      HasField t.kind t.arm → step_place s t inner + k ≡ place → SetIn (step_style s t) k inner q → SetIn s place l q

-- a list in the style v within one in the style s: the same spots, further in by so many bytes
record Wider (s v : Style) (around : Items → Items) (further : Items → ℕ) : Type 0 where
  spot_in : Spot → Spot
  list_is : (spot : Spot) (i : Item) → put s (spot_in spot) i ≡ around (put v spot i)
  style_is : (spot : Spot) → spot_style s (spot_in spot) ≡ spot_style v spot
  place_is : (spot : Spot) (i : Item) → spot_place s (spot_in spot) i ≡ further (put v spot i) + spot_place v spot i

widened : {s v : Style} {around : Items → Items} {further : Items → ℕ} {place : ℕ} {l : Items} {q : Picked} →
    Wider s v around further → SetIn v place l q → SetIn s (further l + place) (around l) q
widened {s} {v} {around} {further} {place} {l} {q} w (here spot is style there) =
    let i = picked_item q in
    let at : spot_place s (w.spot_in spot) i ≡ further l + place = omega (arith, w.place_is spot i, there, ap further is) in
    here (w.spot_in spot) (ap around is ∙ sym (w.list_is spot i)) (w.style_is spot ∙ style) at
widened {s} {v} {around} {further} {place} {l} {q} w (deeper t inner k is has there h) =
    let i = holder t inner in
    let u : Step = record { spot = w.spot_in t.spot; kind = t.kind; arm = t.arm } in
    let at : step_place s u inner + k ≡ further l + place = omega (arith, w.place_is t.spot i, there, ap further is) in
    deeper u inner k (ap around is ∙ sym (w.list_is t.spot i)) has at
    (subst (λ (x : Style). SetIn (field_style t.kind t.arm x) k inner q) (sym (w.style_is t.spot)) h)

-- behind an item
later_spot : Item → Spot → Spot
later_spot i (among b r) = among (cons i b) r
later_spot i (within b x y z spot r) = within (cons i b) x y z spot r

behind_item : (s : Style) (i : Item) → Wider s (style_behind s i) (cons i) (λ r. item_bytes i)
unfolding later_spot style_after items_bytes
behind_item s i = record { spot_in = later_spot i; list_is = lists; style_is = styles; place_is = places }
  where
    lists : (spot : Spot) (j : Item) → put s (later_spot i spot) j ≡ cons i (put (style_behind s i) spot j)
    lists (among b r) j = refl
    lists (within b x y z spot r) j = refl

    styles : (spot : Spot) → spot_style s (later_spot i spot) ≡ spot_style (style_behind s i) spot
    styles (among b r) = refl
    styles (within b x y z spot r) = refl

    places : (spot : Spot) (j : Item) → spot_place s (later_spot i spot) j ≡ item_bytes i + spot_place (style_behind s i) spot j
    places (among b r) j = refl
    places (within b x y z spot r) j = omega arith

-- in the list that a choice takes
in_choice_lem : (s : Style) (a b c r : Items) →
    Wider s s (λ l. cons (choice_with s.level l a b c) r) (λ l. list_place s.level a b c + list_opening_bytes (items_bytes l))
unfolding style_after items_bytes
in_choice_lem s a b c r =
    record {
      spot_in = λ spot. within nil a b c spot r;
      list_is = λ spot i. refl;
      style_is = λ spot. refl;
      place_is = λ spot i. omega arith;
    }

-- a choice by the list that it takes
record TakenWith (s : Style) (d t sc ss : Items) : Type 0 where
  a : Items
  b : Items
  c : Items
  choice_is : choice d t sc ss ≡ choice_with s.level (taken s d t sc ss) a b c
  start_is : taken_start s d t sc ss ≡ list_place s.level a b c + list_opening_bytes (items_bytes (taken s d t sc ss))

taken_with : (s : Style) (d t sc ss : Items) → TakenWith s d t sc ss
taken_with s d t sc ss = go s.level s.cramped
  where
    go : (level : Level) (cramped : Bool) → TakenWith (record { level = level; cramped = cramped }) d t sc ss
    go Display cramped = record { a = t; b = sc; c = ss; choice_is = refl; start_is = refl }
    go Text cramped = record { a = d; b = sc; c = ss; choice_is = refl; start_is = refl }
    go Script cramped = record { a = d; b = t; c = ss; choice_is = refl; start_is = refl }
    go Scriptscript cramped = record { a = d; b = t; c = sc; choice_is = refl; start_is = refl }

-- what is reached lies behind the opening
pub reached_there : (start place : ℕ) (o : Option Picked) {q : Picked} → if_reached (leb start place) o ≡ some q → start ≤ place
reached_there start place o {q} = go (leb start place) refl
  where
    go : (t : Bool) → leb start place ≡ t → if_reached t o ≡ some q → start ≤ place
    go true is e = leb-true start place is
    go false is e = let z : ◌≡◌ {A = ℕ} 0 1 = cc in absurd (omega arith)

-- in a field whose kind byte stands at a place
record FoundIn (s : Style) (at place : ℕ) (x : Field) (q : Picked) : Type 0 where
  inner : Items
  k : ℕ
  is : x ≡ list inner
  there : at + list_opening_bytes (items_bytes inner) + k ≡ place
  set_in : SetIn s k inner q

taken_found : (s : Style) (n : ℕ) (d t sc ss : Items) {q : Picked} {a b c e : Option Picked} → (a ≡ some q → SetIn s n d q) →
    (b ≡ some q → SetIn s n t q) → (c ≡ some q → SetIn s n sc q) → (e ≡ some q → SetIn s n ss q) →
    taken s a b c e ≡ some q → SetIn s n (taken s d t sc ss) q
taken_found s n d t sc ss {q} {a} {b} {c} {e} f g h k = go s.level
  where
    go : (level : Level) → elim level [ Display ↦ a | Text ↦ b | Script ↦ c | Scriptscript ↦ e ] ≡ some q →
        SetIn s n (elim level [ Display ↦ d | Text ↦ t | Script ↦ sc | Scriptscript ↦ ss ]) q
    go Display = f
    go Text = g
    go Script = h
    go Scriptscript = k

-- an item's third field is reached where it has one
third_there_lem : (kind : Kind) (x y z : Field) (place : ℕ) → place < item_bytes (noad kind x y z) → third_field kind x y ≤ place →
    has_third kind ≡ true
unfolding item_bytes
third_there_lem (Scripted base) x y z place h k = refl
third_there_lem (Fraction bar) x y z place h k = absurd (omega arith)

in_first_item : (s : Style) (kind : Kind) (g : Arm) (r : Items) (place : ℕ) {q : Picked} (l : Items) (k : ℕ) → HasField kind g →
    field_place kind g + list_opening_bytes (items_bytes l) + k ≡ place → SetIn (field_style kind g s) k l q →
    SetIn s place (cons (holding kind g l) r) q
unfolding style_after items_bytes
in_first_item s kind g r place l k has there h =
    let t : Step = record { spot = among nil r; kind = kind; arm = g } in
    let at : step_place s t l + k ≡ place = omega arith in
    deeper t l k refl has at h

at_first : (s : Style) (kind : Kind) (x y z : Field) (r : Items) {q : Picked} → picked s kind x y z ≡ q → SetIn s 0 (cons (noad kind x y z) r) q
unfolding style_after items_bytes
at_first s kind x y z r is =
    subst (SetIn s 0 (cons (noad kind x y z) r)) is (here (among nil r) refl refl refl)

mutual
  unfolding pick_in pick_at pick_field

  found_in : (s : Style) (place : ℕ) (l : Items) {q : Picked} → pick_in s place l ≡ some q → SetIn s place l q
  found_in s place nil e = let z : ◌≡◌ {A = ℕ} 0 1 = cc in absurd (omega arith)
  found_in s place (cons i r) {q} e =
      ⊎_elim (λ h. found_at s place i r h (sym (pick_in_here s place i r h) ∙ e))
      (λ h.
      let back : item_bytes i + (place - item_bytes i) ≡ place = omega arith in
      subst (λ (n : ℕ). SetIn s n (cons i r) q) back
      (widened (behind_item s i) (found_in (style_behind s i) (place - item_bytes i) r (sym (pick_in_later s place i r h) ∙ e))))
      (split place (item_bytes i))

  -- in the first item of a list
  found_at : (s : Style) (place : ℕ) (i : Item) (r : Items) {q : Picked} → place < item_bytes i → pick_at s place i ≡ some q →
      SetIn s place (cons i r) q
  found_at s zero (noad kind x y z) r {q} h e = at_first s kind x y z r (cc)
  found_at s (suc n) (noad kind x y z) r {q} h e =
      let a = pick_field (first_style kind s) (opening_bytes kind) (suc n) x in
      let b = pick_field (second_style kind s) (second_field kind x) (suc n) y in
      let c = pick_field (third_style s) (third_field kind x y) (suc n) z in
      ⊎_elim (λ f.
      let w = found_field (first_style kind s) (opening_bytes kind) (suc n) x f in
      subst (λ (v : Field). SetIn s (suc n) (cons (noad kind v y z) r) q) (sym w.is)
      (in_first_item s kind (in_first y z) r (suc n) w.inner w.k tt w.there w.set_in))
      (λ f.
      ⊎_elim (λ g.
      let w = found_field (second_style kind s) (second_field kind x) (suc n) y g in
      subst (λ (v : Field). SetIn s (suc n) (cons (noad kind x v z) r) q) (sym w.is)
      (in_first_item s kind (in_second x z) r (suc n) w.inner w.k tt w.there w.set_in))
      (λ g.
      let w = found_field (third_style s) (third_field kind x y) (suc n) z g in
      let has = third_there_lem kind x y z (suc n) h (omega (arith, w.there)) in
      subst (λ (v : Field). SetIn s (suc n) (cons (noad kind x y v) r) q) (sym w.is)
      (in_first_item s kind (in_third x y) r (suc n) w.inner w.k has w.there w.set_in))
      (or_in_some b c f))
      (or_in_some a (b or_in c) e)
  found_at s place (kern n) r h e = let z : ◌≡◌ {A = ℕ} 0 1 = cc in absurd (omega arith)
  found_at s place (restyle n) r h e = let z : ◌≡◌ {A = ℕ} 0 1 = cc in absurd (omega arith)
  found_at s place (choice d t sc ss) r {q} h e =
      let start = taken_start s d t sc ss in
      let n = place - start in
      let l = taken s d t sc ss in
      let w = taken_with s d t sc ss in
      let o = taken s (pick_in s n d) (pick_in s n t) (pick_in s n sc) (pick_in s n ss) in
      let from = reached_there start place o e in
      let there : list_place s.level w.a w.b w.c + list_opening_bytes (items_bytes l) + n ≡ place = omega (arith, w.start_is) in
      let inner : SetIn s n l q =
      taken_found s n d t sc ss (λ k. found_in s n d k) (λ k. found_in s n t k) (λ k. found_in s n sc k) (λ k. found_in s n ss k)
      (reached (leb start place) o e)
      in
      subst (λ (c : Item). SetIn s place (cons c r) q) (sym w.choice_is)
      (subst (λ (m : ℕ). SetIn s m (cons (choice_with s.level l w.a w.b w.c) r) q) there
      (widened (in_choice_lem s w.a w.b w.c r) inner))

  found_field : (s : Style) (at place : ℕ) (x : Field) {q : Picked} → pick_field s at place x ≡ some q → FoundIn s at place x q
  found_field s at place empty e = let z : ◌≡◌ {A = ℕ} 0 1 = cc in absurd (omega arith)
  found_field s at place (symbol family code) e = let z : ◌≡◌ {A = ℕ} 0 1 = cc in absurd (omega arith)
  found_field s at place (list l) e =
      let start = at + list_opening_bytes (items_bytes l) in
      let o = pick_in s (place - start) l in
      let from = reached_there start place o e in
      record {
        inner = l;
        k = place - start;
        is = refl;
        there = omega arith;
        set_in = found_in s (place - start) l (reached (leb start place) o e);
      }

-- ---- a step, and then a path from there

under : Step → Path → Path
under t whole = into whole t
under t (into p u) = into (under t p) u

module _ (s : Style) (t : Step) where
  under_style : (p : Path) → style_at s (under t p) ≡ style_at (step_style s t) p
  unfolding under
  under_style whole = refl
  under_style (into p u) = ap (λ (v : Style). step_style v u) (under_style p)

  under_fill : (p : Path) (l : Items) → fill s (under t p) l ≡ list_with s t (fill (step_style s t) p l)
  unfolding under
  under_fill whole l = refl
  under_fill (into p u) l =
      ap (λ (v : Style). fill s (under t p) (list_with v u l)) (under_style p)
      ∙ under_fill p (list_with (style_at (step_style s t) p) u l)

  under_place : (p : Path) (l : Items) →
      place_of s (under t p) l ≡ step_place s t (fill (step_style s t) p l) + place_of (step_style s t) p l
  unfolding under
  under_place whole l = omega arith
  under_place (into p u) l =
      let v = style_at (step_style s t) p in
      ap (λ (w : Style). place_of s (under t p) (list_with w u l) + step_place w u l) (under_style p)
      ∙ omega (arith, under_place p (list_with v u l))

  under_fields : (p : Path) → HasField t.kind t.arm → HasFields p → HasFields (under t p)
  unfolding under
  under_fields whole has rest = (tt, has)
  under_fields (into p u) has rest = (under_fields p has rest.0, rest.1)

set_at : {s : Style} {place : ℕ} {l : Items} {q : Picked} → SetIn s place l q → SetAt s place l q
set_at (here spot is style there) =
    record {
      site = record { path = whole; spot = spot };
      formula_is = is;
      style_is = style;
      place_is = omega (arith, there);
      has_fields = tt;
    }
set_at {s} {place} {l} {q} (deeper t inner k is has there h) =
    let w = set_at h in
    let p = w.site.path in
    let spot = w.site.spot in
    let i = picked_item q in
    let u = step_style s t in
    let same = under_style s t p in
    let m = put (style_at u p) spot i in
    let bytes = ap (step_place s t) w.formula_is in
    let found = w.place_is in
    record {
      site = record { path = under t p; spot = spot };
      formula_is =
          is
          ∙ ap (list_with s t) w.formula_is
          ∙ sym (under_fill s t p m)
          ∙ ap (λ (v : Style). fill s (under t p) (put v spot i)) (sym same);
      style_is = ap (λ (v : Style). spot_style v spot) same ∙ w.style_is;
      place_is =
          ap (λ (v : Style). place_of s (under t p) (put v spot i) + spot_place v spot i) same
          ∙ omega (arith, under_place s t p m, bytes, found, there);
      has_fields = under_fields s t p has w.has_fields;
    }

pub picked_set : {s : Style} {place : ℕ} {formula : Items} {q : Picked} → pick_in s place formula ≡ some q → SetAt s place formula q
picked_set {s} {place} {formula} e = set_at (found_in s place formula e)
