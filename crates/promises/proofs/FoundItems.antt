-- What asking why finds is set in the formula's bytes (change request 12). With `item_stands` it finds exactly the items that are set, by the
-- places of their first bytes.
--     FoundAt      at this place of the bytes an item is set, in the style of what was found, and its bytes read to it
--     found_at     whatever `pick_in` finds at a place of the tree is found so
-- It goes down the bytes as `pick_in` goes down the tree, an item at a time: each list that is entered is shorter than the one that holds it.
-- What is set behind the first item, or in the list that a choice takes, is set further on in the list (`Further`), and what is set in a list
-- field is so within it (`fields_under`).
-- Assumes nothing.
use Rattle.std.proofs.Math.Path.{◌≡◌, refl, ap, subst}
use Rattle.std.proofs.Common.{sym, ◌∙◌, drop-drop}
use Rattle.std.proofs.Math.Logic.{⊎_elim}
use Rattle.std.specs.Prelude.{Bool, List, leb}
use Rattle.std.proofs.Math.Bool.{true, false}
use Rattle.std.proofs.Math.Option.{Option, none, some}
use Prim.Native.Nat.{ℕ, zero, suc, ◌+◌, ◌-◌, ◌≤◌, ◌<◌}
use native.Mathlib.Omega.{arith}
use Rattle.std.proofs.Math.ListN.{length, drop, length-drop}
use Rattle.formula.specs.declared.Kind.{Kind}
use Rattle.formula.specs.declared.Opening.{Opening}
use Rattle.formula.specs.declared.Opening.TheVariants.{NoItem, Fields, Kern, Restyle, Choice}
use Rattle.formula.specs.declared.FieldHead.{FieldHead}
use Rattle.formula.specs.declared.FieldHead.TheVariants.{NoField, Empty, Symbol, Sublist, CutSublist}
use Rattle.formula.specs.Tree.{Items, nil, cons, opening_bytes, list_opening_bytes, items_bytes, item_bytes}
use Rattle.formula.specs.Format.{long_format}
use Rattle.formula.specs.Heads.{opening_of, field_head}
use Rattle.formula.specs.Reading.{good, read_formula}
use Rattle.formula.specs.FormatLaws.{reads_so}
use Rattle.formula.specs.HeadLaws.{contents_shorter, style_small, list_opening_lem}
use Rattle.formula.specs.Places.{Readable, tree_of, contents, field_of, GoodField, GoodList, GoodItem, choice_lists, has_third, head_at, second, third, list_place, item_size, field_in, third_in, list_in, item_of, GoodFieldAt, GoodThird, second_field, third_field}
use Rattle.formula.specs.PlacesLaws.{readable_of, tree_is, tree_none, items_bytes_lem, Stepped, step, item_bytes_lem, noad_at_lem, choice_at_lem, second_field_lem, third_field_lem}
use Rattle.boxes.specs.declared.styles.Level.{Level}
use Rattle.boxes.specs.declared.styles.Level.TheVariants.{Display, Text, Script, Scriptscript}
use Rattle.boxes.specs.declared.styles.Style.{Style}
use Rattle.boxes.specs.Styles.{style_of}
use Rattle.arrange.specs.Arrange.{first_style, second_style, third_style}
use Rattle.setting.specs.Setting.{style_after, style_behind, Sides}
use Rattle.setting.proofs.SettingLaws.{style_behind_choice_lem}
use Rattle.setting.specs.Paths.{choice_with, list_place as placeAmong}
use Rattle.setting.specs.Picked.{Picked, ◌or_in◌, if_reached, pick_in, pick_at, pick_field}
use Rattle.setting.proofs.PickedLaws.{pick_in_here, pick_in_later, split, or_in_some, reached}
use Rattle.setting.proofs.PickedSet.{pick_at_chosen, reached_there}
use Rattle.promises.specs.ListFields.{ListField, taken_number, taken_place, ItemAt, first, past_fields, past_kern, past_style, past_choice, SetItem, in_list, in_taken, FieldAt, in_one, in_two, in_three, OwnListField, ListFieldAt, own, deeper, TakenRead}
use Rattle.promises.proofs.ListFields.{list_field_lem, taken_read}
use Rattle.promises.specs.ItemsOnPage.{ItemSetAt, outermost, in_field, item_read}

pub record FoundAt (u : Style) (s : List ℕ) (place : ℕ) (q : Picked) : Type 0 where
  pub item : List ℕ
  pub is_set : ItemSetAt u s place q.style item
  pub opens : opening_of item ≡ Fields q.kind
  pub reads : item_read q.style item q.kind ≡ q

-- ---- further on in a list

-- what is set in t is set in s, so many bytes further on
abbrev Further : Style → List ℕ → Style → List ℕ → ℕ → Type 0
Further u s w t d = (place : ℕ) (v : Style) (item : List ℕ) → SetItem w t place v item → SetItem u s (d + place) v item

module _ {u : Style} {s : List ℕ} {w : Style} {t : List ℕ} (d : ℕ) (f : Further u s w t d) where
  own_further : {place : ℕ} {v : Style} {sides : Sides} {field : List ℕ} → OwnListField w t place v sides field →
      OwnListField u s (d + place) v sides field
  own_further o =
      record {
        item_place = d + o.item_place;
        item_style_lem = o.item_style_lem;
        item = o.item;
        is_set = f o.item_place o.item_style_lem o.item o.is_set;
        kind = o.kind;
        opens = o.opens;
        field_place_lem = o.field_place_lem;
        in_item = o.in_item;
        place_is = omega (arith, o.place_is);
        is_list_lem = o.is_list_lem;
      }

  field_further : {place : ℕ} {v : Style} {sides : Sides} {field : List ℕ} → ListFieldAt w t place v sides field →
      ListFieldAt u s (d + place) v sides field
  field_further (own o) = own (own_further o)
  field_further (deeper {outer} {inner} {w = x} {sides = sides} {around} {field} h g) =
      let opening = list_opening_bytes (length around) in
      let e : d + outer + opening + inner ≡ d + (outer + opening + inner) = omega arith in
      subst (λ (k : ℕ). ListFieldAt u s k x sides field) e (deeper (field_further h) g)

  item_further : {place : ℕ} {v : Style} {item : List ℕ} → ItemSetAt w t place v item → ItemSetAt u s (d + place) v item
  item_further {place} {v} {item} (outermost h) = outermost (f place v item h)
  item_further {v = v} {item} (in_field {outer} {inner} {around = around} h k) =
      let opening = list_opening_bytes (length around) in
      let e : d + outer + opening + inner ≡ d + (outer + opening + inner) = omega arith in
      subst (λ (n : ℕ). ItemSetAt u s n v item) e (in_field (field_further h) k)

  found_further : {k place : ℕ} {q : Picked} → d + k ≡ place → FoundAt w t k q → FoundAt u s place q
  found_further {q = q} e h =
      record {
        item = h.item;
        is_set = subst (λ (n : ℕ). ItemSetAt u s n q.style h.item) e (item_further h.is_set);
        opens = h.opens;
        reads = h.reads;
      }

-- ---- in a list field

module _ {u : Style} {s : List ℕ} {place : ℕ} {w : Style} {beside : Sides} {around : List ℕ} (o : OwnListField u s place w beside around) where
  fields_under : {k : ℕ} {v : Style} {sides : Sides} {field : List ℕ} → ListFieldAt w around k v sides field →
      ListFieldAt u s (place + list_opening_bytes (length around) + k) v sides field
  fields_under (own g) = deeper (own o) g
  fields_under (deeper {outer} {inner} {w = x} {sides = sides} {around = inside} {field} h g) =
      let start = place + list_opening_bytes (length around) in
      let opening = list_opening_bytes (length inside) in
      let e : start + outer + opening + inner ≡ start + (outer + opening + inner) = omega arith in
      subst (λ (k : ℕ). ListFieldAt u s k x sides field) e (deeper (fields_under h) g)

  items_under : {k : ℕ} {v : Style} {item : List ℕ} → ItemSetAt w around k v item →
      ItemSetAt u s (place + list_opening_bytes (length around) + k) v item
  items_under (outermost h) = in_field (own o) h
  items_under {v = v} {item} (in_field {outer} {inner} {around = inside} h k) =
      let start = place + list_opening_bytes (length around) in
      let opening = list_opening_bytes (length inside) in
      let e : start + outer + opening + inner ≡ start + (outer + opening + inner) = omega arith in
      subst (λ (n : ℕ). ItemSetAt u s n v item) e (in_field (fields_under h) k)

  found_under : {k there : ℕ} {q : Picked} → place + list_opening_bytes (length around) + k ≡ there → FoundAt w around k q → FoundAt u s there q
  found_under {q = q} e h =
      record {
        item = h.item;
        is_set = subst (λ (n : ℕ). ItemSetAt u s n q.style h.item) e (items_under h.is_set);
        opens = h.opens;
        reads = h.reads;
      }

-- ---- the style behind an item

styled : (n : ℕ) → n ≤ 7 → (v : Style) × (style_of n ≡ some v)
unfolding style_of
styled zero h = (_, refl)
styled (suc zero) h = (_, refl)
styled (suc (suc zero)) h = (_, refl)
styled (suc (suc (suc zero))) h = (_, refl)
styled (suc (suc (suc (suc zero)))) h = (_, refl)
styled (suc (suc (suc (suc (suc zero))))) h = (_, refl)
styled (suc (suc (suc (suc (suc (suc zero)))))) h = (_, refl)
styled (suc (suc (suc (suc (suc (suc (suc zero))))))) h = (_, refl)
styled (suc (suc (suc (suc (suc (suc (suc (suc n)))))))) h = absurd (omega arith)

-- the list that a choice takes
record Taken (u : Style) (s : List ℕ) : Type 0 where
  inner : List ℕ
  is_list_lem : ListField (drop (taken_place u s) s) inner
  shorter : length inner < length s
  reading : TakenRead u s inner

list_there_lem : (s : List ℕ) (h : FieldHead) → field_head s ≡ h → GoodList s h → (inner : List ℕ) × ListField s inner × (length inner < length s)
list_there_lem s NoField e g = absurd g
list_there_lem s Empty e g = absurd g
list_there_lem s (Symbol family code) e g = absurd g
list_there_lem s (Sublist opening n) e g =
    (contents opening n s, list_field_lem s opening n e, omega (arith, contents_shorter s opening n e))
list_there_lem s CutSublist e g = absurd g

among_four : (u : Style) → taken_number u < choice_lists
among_four u = go u.level
  where
    go : (level : Level) → elim level [ Display ↦ 0 | Text ↦ 1 | Script ↦ 2 | Scriptscript ↦ 3 ] < choice_lists
    go Display = omega arith
    go Text = omega arith
    go Script = omega arith
    go Scriptscript = omega arith

taken_there : (u : Style) (s : List ℕ) → opening_of s ≡ Choice → Readable s → Taken u s
taken_there u s e r =
    let at = taken_place u s in
    let l = list_there_lem (drop at s) (head_at s at) refl ((choice_at_lem s e r).lists (taken_number u) (among_four u)) in
    record {
      inner = l.0;
      is_list_lem = l.1;
      shorter = omega (arith, l.2, length-drop at s);
      reading = taken_read u s l.0 e r l.1;
    }

-- every list shorter than n has an end, in the style behind its items
abbrev EndsIn : ℕ → Type 0
EndsIn n = (t : List ℕ) (u : Style) → length t < n → Readable t → ItemAt u t (length t) (style_after u (tree_of t))

past_first : (u : Style) (s : List ℕ) (o : Opening) → opening_of s ≡ o → Readable s → GoodItem s o → EndsIn (length s) → {at : ℕ} {w : Style} →
    ItemAt (style_behind u (item_of s o)) (drop (item_size s o) s) at w → ItemAt u s (item_size s o + at) w
unfolding style_behind
past_first u s NoItem e r g ends h = absurd g
past_first u s (Fields kind) e r g ends {at} h = past_fields at kind e h
past_first u s (Kern n) e r g ends {at} h = past_kern at n e h
past_first u s (Restyle n) e r g ends {at} {w} h =
    let v = styled n (style_small s n e) in
    let rest = drop (item_size s (Restyle n)) s in
    let is : style_behind u (item_of s (Restyle n)) ≡ v.0 = ap (λ (x : Option Style). elim x [ none ↦ u | some new ↦ new ]) v.1 in
    past_style at n e v.1 (subst (λ (x : Style). ItemAt x rest at w) is h)
past_first u s Choice e r g ends {at} {w} h =
    let t = taken_there u s e r in
    let rest = drop (item_size s Choice) s in
    let is : style_behind u (item_of s Choice) ≡ style_after u (tree_of t.inner) =
    style_behind_choice_lem u (list_in s 0) (list_in s 1) (list_in s 2) (list_in s 3) ∙ ap (style_after u) t.reading.items_are
    in
    past_choice at e t.is_list_lem (ends t.inner u t.shorter t.reading.readable) (subst (λ (x : Style). ItemAt x rest at w) is h)

ends_by : (n : ℕ) → EndsIn n → EndsIn (suc n)
unfolding style_after
ends_by n again t u short r = go (length t) refl
  where
    go : (m : ℕ) → length t ≡ m → ItemAt u t (length t) (style_after u (tree_of t))
    go zero e = rw (e, (tree_none t e).1) first
    go (suc m) e =
        let o = opening_of t in
        let p = step t o refl r (omega arith) in
        let size = item_size t o in
        let rest = drop size t in
        let v = style_behind u (item_of t o) in
        let bytes = length-drop size t in
        let all : size + length rest ≡ length t = omega (arith, p.fits) in
        let shorter : length rest < n = omega (arith, p.some, p.fits) in
        let there : ItemAt u t (size + length rest) (style_after v (tree_of rest)) =
        past_first u t o refl r p.item (λ x w k y. again x w (omega arith) y) (again rest v shorter p.rest)
        in
        rw p.tree (subst (λ (k : ℕ). ItemAt u t k (style_after v (tree_of rest))) all there)

ends : (n : ℕ) → EndsIn n
ends zero t u short r = absurd (omega arith)
ends (suc n) t u short r = ends_by n (ends n) t u short r

-- behind the first item
set_behind : (u : Style) (s : List ℕ) (o : Opening) → opening_of s ≡ o → Readable s → GoodItem s o → {place : ℕ} {v : Style} {item : List ℕ} →
    SetItem (style_behind u (item_of s o)) (drop (item_size s o) s) place v item → SetItem u s (item_size s o + place) v item
set_behind u s o e r g (in_list {v = v} {at = at} i) =
    let size = item_size s o in
    subst (λ (x : List ℕ). SetItem u s (size + at) v x) (sym (drop-drop at size s)) (in_list (past_first u s o e r g (ends (length s)) i))
set_behind u s o e r g (in_taken {v = v} {w} {inner = inner} {item} {at} {k} i c f j) =
    let size = item_size s o in
    let opening = list_opening_bytes (length inner) in
    let same = drop-drop at size s in
    let chosen = subst (λ (x : List ℕ). opening_of x ≡ Choice) same c in
    let is_list_lem = subst (λ (x : List ℕ). ListField (drop (taken_place v x) x) inner) same f in
    let there = in_taken (past_first u s o e r g (ends (length s)) i) chosen is_list_lem j in
    let moved = ap (taken_place v) same in
    let e : size + at + (taken_place v (drop (size + at) s) + opening) + k
    ≡ size + (at + (taken_place v (drop at (drop size s)) + opening) + k) = omega arith in
    subst (λ (n : ℕ). SetItem u s n w item) e there

-- ---- what is found

-- in every list of at most n bytes
abbrev FoundIn : ℕ → Type 0
FoundIn n = (u : Style) (s : List ℕ) (place : ℕ) (q : Picked) → length s ≤ n → Readable s → pick_in u place (tree_of s) ≡ some q → FoundAt u s place q

module _ (n : ℕ) (again : FoundIn n) (u : Style) (s : List ℕ) (few : length s ≤ suc n) (r : Readable s) where
  -- in a field of the first item
  module _ (kind : Kind) (e : opening_of s ≡ Fields kind) where
    found_in_field : {at : ℕ} {v : Style} {sides : Sides} (from place : ℕ) (q : Picked) → FieldAt s kind u at v sides → from ≡ at →
        (h : FieldHead) → head_at s at ≡ h → GoodField (drop at s) h → pick_field v from place (field_of (drop at s) h) ≡ some q → FoundAt u s place q
    unfolding pick_field
    found_in_field from place q there at_is NoField is g f = absurd g
    found_in_field from place q there at_is Empty is g f = let z : ◌≡◌ {A = ℕ} 0 1 = cc in absurd (omega arith)
    found_in_field from place q there at_is (Symbol family code) is g f = let z : ◌≡◌ {A = ℕ} 0 1 = cc in absurd (omega arith)
    found_in_field {at} {v} {sides} from place q there at_is (Sublist opening m) is g f =
        let inner = contents opening m (drop at s) in
        let l = tree_of inner in
        let start = from + list_opening_bytes (items_bytes l) in
        let k = place - start in
        let reach = reached_there start place (pick_in v k l) f in
        let opens = ap list_opening_bytes (items_bytes_lem inner g) in
        let shorter : length inner ≤ n = omega (arith, contents_shorter (drop at s) opening m is, length-drop at s) in
        let field : OwnListField u s at v sides inner =
        record {
          item_place = 0;
          item_style_lem = u;
          item = s;
          is_set = in_list first;
          kind = kind;
          opens = e;
          field_place_lem = at;
          in_item = there;
          place_is = omega arith;
          is_list_lem = list_field_lem (drop at s) opening m is;
        }
        in
        let e : at + list_opening_bytes (length inner) + k ≡ place = omega arith in
        found_under field e (again v inner k q shorter g (reached (leb start place) (pick_in v k l) f))
    found_in_field from place q there at_is CutSublist is g f = absurd g

    found_in_third : (has : Bool) → has_third kind ≡ has → (from place : ℕ) (q : Picked) → from ≡ third s kind → GoodThird s has (third s kind) →
        pick_field (third_style u) from place (third_in s has (third s kind)) ≡ some q → FoundAt u s place q
    unfolding pick_field
    found_in_third true has from place q at_is g f = found_in_field from place q (in_three has) at_is (head_at s (third s kind)) refl g f
    found_in_third false has from place q at_is g f = let z : ◌≡◌ {A = ℕ} 0 1 = cc in absurd (omega arith)

    found_noad : (place : ℕ) (q : Picked) → pick_at u place (item_of s (Fields kind)) ≡ some q → FoundAt u s place q
    unfolding pick_at
    found_noad zero q f =
        let is : item_read u s kind ≡ q = cc in
        subst (FoundAt u s 0) is (record { item = s; is_set = outermost (in_list first); opens = e; reads = refl })
    found_noad (suc m) q f =
        let nd = noad_at_lem s kind e r in
        let x = field_in s (opening_bytes kind) in
        let y = field_in s (second s kind) in
        let a = pick_field (first_style kind u) (opening_bytes kind) (suc m) x in
        let b = pick_field (second_style kind u) (second_field kind x) (suc m) y in
        let c = pick_field (third_style u) (third_field kind x y) (suc m) (third_in s (has_third kind) (third s kind)) in
        ⊎_elim (λ h. found_in_field (opening_bytes kind) (suc m) q in_one refl (head_at s (opening_bytes kind)) refl nd.x h)
        (λ h.
        ⊎_elim (λ k. found_in_field (second_field kind x) (suc m) q in_two (second_field_lem s kind nd) (head_at s (second s kind)) refl nd.y k)
        (λ k. found_in_third (has_third kind) refl (third_field kind x y) (suc m) q (third_field_lem s kind nd) nd.z k)
        (or_in_some b c h))
        (or_in_some a (b or_in c) f)

  -- in the list that it takes
  found_choice : opening_of s ≡ Choice → (place : ℕ) (q : Picked) → pick_at u place (item_of s Choice) ≡ some q → FoundAt u s place q
  found_choice e place q f =
      let t = taken_there u s e r in
      let w = t.reading in
      let inner = t.inner in
      let l = tree_of inner in
      let start = placeAmong u.level w.a w.b w.c + list_opening_bytes (items_bytes l) in
      let k = place - start in
      let found = sym (pick_at_chosen u place l w.a w.b w.c) ∙ ap (pick_at u place) (sym w.is) ∙ f in
      let reach = reached_there start place (pick_in u k l) found in
      let opens = ap list_opening_bytes (items_bytes_lem inner w.readable) in
      let before = 0 + (taken_place u s + list_opening_bytes (length inner)) in
      let there : before + k ≡ place = omega (arith, w.place) in
      let shorter : length inner ≤ n = omega (arith, t.shorter) in
      let further : Further u s u inner before = λ at v item j. in_taken first e t.is_list_lem j in
      found_further before further there (again u inner k q shorter w.readable (reached (leb start place) (pick_in u k l) found))

  found_first : (o : Opening) → opening_of s ≡ o → GoodItem s o → (place : ℕ) (q : Picked) → pick_at u place (item_of s o) ≡ some q → FoundAt u s place q
  unfolding pick_at
  found_first NoItem e g place q f = absurd g
  found_first (Fields kind) e g place q f = found_noad kind e place q f
  found_first (Kern n) e g place q f = let z : ◌≡◌ {A = ℕ} 0 1 = cc in absurd (omega arith)
  found_first (Restyle n) e g place q f = let z : ◌≡◌ {A = ℕ} 0 1 = cc in absurd (omega arith)
  found_first Choice e g place q f = found_choice e place q f

  found_by : (place : ℕ) (q : Picked) → pick_in u place (tree_of s) ≡ some q → FoundAt u s place q
  unfolding pick_in
  found_by place q f = go (length s) refl
    where
      go : (m : ℕ) → length s ≡ m → FoundAt u s place q
      go zero e =
          let nothing = ap (pick_in u place) (tree_none s e).1 in
          let z : ◌≡◌ {A = ℕ} 0 1 = cc in
          absurd (omega arith)
      go (suc m) e =
          let o = opening_of s in
          let p = step s o refl r (omega arith) in
          let i = item_of s o in
          let rest = drop (item_size s o) s in
          let bytes = item_bytes_lem s o p.item in
          let found = ap (pick_in u place) (sym p.tree) ∙ f in
          let shorter : length rest ≤ n = omega (arith, p.some, p.fits, length-drop (item_size s o) s) in
          ⊎_elim (λ h. found_first o refl p.item place q (sym (pick_in_here u place i (tree_of rest) h) ∙ found))
          (λ h.
          let there : item_size s o + (place - item_bytes i) ≡ place = omega arith in
          found_further (item_size s o) (λ k v item j. set_behind u s o refl r p.item j) there
          (again (style_behind u i) rest (place - item_bytes i) q shorter p.rest (sym (pick_in_later u place i (tree_of rest) h) ∙ found)))
          (split place (item_bytes i))

found_among : (n : ℕ) → FoundIn n
unfolding pick_in
found_among zero u s place q few r f =
    let nothing = ap (pick_in u place) (tree_none s (omega arith)).1 in
    let z : ◌≡◌ {A = ℕ} 0 1 = cc in
    absurd (omega arith)
found_among (suc n) u s place q few r f = found_by n (found_among n) u s few r place q f

pub found_at : (u : Style) (formula : List ℕ) (place : ℕ) {tree : Items} {q : Picked} → read_formula formula ≡ good tree →
    pick_in u place tree ≡ some q → FoundAt u formula place q
found_at u formula place {tree} {q} reads f =
    let read = (reads_so long_format formula tree reads).1 in
    let same = tree_is formula _ tree read in
    found_among (length formula) u formula place q (omega arith) (readable_of formula _ tree read) (ap (pick_in u place) same ∙ f)
