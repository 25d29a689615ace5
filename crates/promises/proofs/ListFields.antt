-- The list fields of what is set, by the place of the kind byte: the laws of `specs/ListFields.antt`.
-- Assumes nothing.
use Rattle.std.specs.Prelude.{◌≡◌, refl, Bool, true, false, ◌&&◌, List, [], ◌∷◌, ℕ, ◌+◌, ◌<◌, leb, eqb, length, take, drop}
use Rattle.std.proofs.Common.{sym, subst, ap, ap₂, ◌∙◌, arith, length-drop, drop-drop, eqb-true}
use Rattle.std.proofs.Math.Option.{Option, none, some}
use Rattle.laws.specs.Truths.{by_test, either, both_true}
use Rattle.scaled.specs.declared.Sp.{Sp}
use Rattle.words.specs.Words.{little_endian}
use Rattle.formula.specs.declared.Kind.{Kind}
use Rattle.formula.specs.declared.Opening.{Opening}
use Rattle.formula.specs.declared.Opening.TheVariants.{Fields, Kern, Restyle, Choice}
use Rattle.formula.specs.declared.FieldHead.{FieldHead}
use Rattle.formula.specs.declared.FieldHead.TheVariants.{Sublist, CutSublist, NoField, Empty, Symbol}
use Rattle.formula.specs.Tree.{Items, Item, Field, nil, cons, noad, empty, symbol, list, opening_bytes, holds_list, short_opening_bytes, long_opening_bytes, list_opening_bytes, sublist_bytes, items_bytes, field_bytes}
use Rattle.formula.specs.Heads.{opening_of, sublist_head, list_head, long_list_head, field_head_under, field_head, greatest_family, symbol_head}
use Rattle.formula.specs.HeadLaws.{list_opening_lem, opening_some, contents_shorter, opening_fits}
use Rattle.formula.specs.Places.{Readable, tree_of, head_bytes, contents, field_of, GoodField, list_of, choice_lists, has_third, opened_bytes, head_at, second, third, list_place, item_size, field_in, third_in, list_in, item_of}
use Rattle.formula.specs.PlacesLaws.{tree_none, items_bytes_lem, Noad, noad_at_lem, choice_at_lem, step, third_good, list_good_field, item_bytes_lem, list_bytes, second_field_lem, third_field_lem}
use Rattle.boxes.specs.declared.styles.Level.{Level}
use Rattle.boxes.specs.declared.styles.Level.TheVariants.{Display, Text, Script, Scriptscript}
use Rattle.boxes.specs.declared.styles.Style.{Style}
use Rattle.boxes.specs.Styles.{style_of}
use Rattle.arrange.specs.Arrange.{first_style, second_style, third_style, first_manner}
use Rattle.setting.specs.Setting.{taken, style_after, style_behind, Sides, no_sides, fence_sides, sides_of}
use Rattle.setting.proofs.SettingLaws.{held_sides, first_sides, taken_all, style_behind_choice_lem}
use Rattle.setting.proofs.Lines.{style_after_join}
use Rattle.setting.specs.Paths.{Arm, in_first, in_second, in_third, holding, field_style, field_manner, field_place, HasField, join, choice_with, list_place as placeAmong, Spot, among, within, put, items_before, spot_place, Step, list_with, item_style, step_style, step_sides, step_place, Path, whole, into, fill, style_at, sides_at, place_of, HasFields}
use Rattle.promises.specs.FieldBytes.{PartAt, part_behind, part_within}
use Rattle.promises.specs.ListFields.{ListField, taken_number, taken_place, ItemAt, SetItem, FieldAt, OwnListField, ListFieldAt, SidesOf, TakenRead, SpotOf, Reached, list_field, long_list_field, first, past_fields, past_kern, past_style, past_choice, in_list, in_taken, in_one, in_two, in_three, own, deeper}

first_of : (kind : Kind) (u : Style) → SidesOf kind (opening_bytes kind) (sides_of (first_manner kind u))
first_of kind u =
    record {
      of_fence = λ h. first_sides kind u ∙ ap held_sides h.0;
      of_others = λ none. first_sides kind u ∙ by_test (holds_list kind) (λ t. absurd (none (t, refl))) (λ t. ap held_sides t);
    }

other_of : (kind : Kind) (at : ℕ) → opening_bytes kind < at → SidesOf kind at no_sides
other_of kind at behind = record { of_fence = λ h. absurd (omega (arith, h.1)); of_others = λ none. refl }

-- where the item's fields read
pub field_sides_lem : {s : List ℕ} {kind : Kind} {u v : Style} {at : ℕ} {sides : Sides} → Noad s kind → FieldAt s kind u at v sides →
    SidesOf kind at sides
field_sides_lem {kind = kind} {u} n in_one = first_of kind u
field_sides_lem {kind = kind} n in_two = other_of kind _ n.first_in
field_sides_lem {kind = kind} n (in_three has) = other_of kind _ (omega (arith, n.first_in, n.second_in))

-- by a path's last step
pub step_sides_lem : (u : Style) (t : Step) → SidesOf t.kind (field_place t.kind t.arm) (step_sides u t)
unfolding field_bytes
step_sides_lem u t = go t.arm
  where
    some_bytes : (f : Field) → 0 < field_bytes f
    some_bytes empty = omega arith
    some_bytes (symbol family code) = omega arith
    some_bytes (list l) = omega (arith, opening_some (items_bytes l))

    go : (g : Arm) → SidesOf t.kind (field_place t.kind g) (sides_of (field_manner t.kind g (item_style u t)))
    go (in_first y z) = first_of t.kind (item_style u t)
    go (in_second x z) = other_of t.kind _ (omega (arith, some_bytes x))
    go (in_third x y) = other_of t.kind _ (omega (arith, some_bytes x))

-- ---- a list field reads to the tree of the bytes that it holds
record ListRead (s field : List ℕ) : Type 0 where
  readable : Readable field
  is : field_of s (field_head s) ≡ list (tree_of field)
  items_are : list_of s (field_head s) ≡ tree_of field
  part : PartAt s (list_opening_bytes (length field)) field

-- of n bytes, behind an opening of so many
sublist_read : (s : List ℕ) (opening n : ℕ) → field_head s ≡ sublist_head opening n (drop opening s) → GoodField s (field_head s) →
    ListRead s (contents opening n s)
unfolding sublist_head
sublist_read s opening n says good =
    let is = says ∙ go (eqb opening (list_opening_bytes n) && leb n (length (drop opening s))) (rw says at good) in
    let long : length (contents opening n s) ≡ n = (contents_shorter s opening n is).0 in
    let opens = list_opening_lem s opening n is ∙ ap list_opening_bytes (sym long) in
    record {
      readable = rw is at good;
      is = ap (field_of s) is;
      items_are = ap (list_of s) is;
      part = ap₂ (λ (o k : ℕ). contents o k s) opens (sym long);
    }
  where
    head : Bool → FieldHead
    head t = elim t [ true ↦ Sublist opening n | false ↦ CutSublist ]

    go : (t : Bool) → GoodField s (head t) → head t ≡ Sublist opening n
    go true good = refl
    go false good = absurd good

list_read : (s field : List ℕ) → ListField s field → GoodField s (field_head s) → ListRead s field
unfolding field_head_under list_head long_list_head
list_read s field (list_field a b rest) good =
    sublist_read (2 ∷ a ∷ b ∷ rest) short_opening_bytes (little_endian 2 (a ∷ b ∷ [])) refl good
list_read s field (long_list_field a b c d rest) good =
    sublist_read (3 ∷ a ∷ b ∷ c ∷ d ∷ rest) long_opening_bytes (little_endian 4 (a ∷ b ∷ c ∷ d ∷ [])) refl good

-- a list field begins so
ListShown : List ℕ → FieldHead → Type 0
ListShown s NoField = Unit {0}
ListShown s Empty = Unit {0}
ListShown s (Symbol family code) = Unit {0}
ListShown s (Sublist opening n) = ListField s (contents opening n s)
ListShown s CutSublist = Unit {0}

list_shown : (s : List ℕ) → ListShown s (field_head s)
unfolding field_head_under symbol_head list_head long_list_head sublist_head ListShown
list_shown [] = tt
list_shown (kind ∷ s) =
    let P = ListShown (kind ∷ s) in
    either P (eqb kind 0) (λ e. tt) (λ e.
    either P (eqb kind 1) (λ e. symbols s) (λ e.
    either P (eqb kind 2) (λ e. subst (λ (k : ℕ). ListShown (k ∷ s) (list_head s)) (sym (eqb-true kind 2 e)) (short s)) (λ e.
    either P (eqb kind 3 && true)
    (λ e. subst (λ (k : ℕ). ListShown (k ∷ s) (long_list_head s)) (sym (eqb-true kind 3 (both_true e).0)) (long s)) (λ e. tt))))
  where
    symbols : (t : List ℕ) → ListShown (kind ∷ s) (symbol_head t)
    symbols [] = tt
    symbols (family ∷ []) = tt
    symbols (family ∷ code ∷ t) = either (ListShown (kind ∷ s)) (leb family greatest_family) (λ e. tt) (λ e. tt)

    sublists : (t : List ℕ) (opening n : ℕ) (rest : List ℕ) → ListField t (contents opening n t) → ListShown t (sublist_head opening n rest)
    sublists t opening n rest f =
        either (ListShown t) (eqb opening (list_opening_bytes n) && leb n (length rest)) (λ e. f) (λ e. tt)

    short : (t : List ℕ) → ListShown (2 ∷ t) (list_head t)
    short [] = tt
    short (a ∷ []) = tt
    short (a ∷ b ∷ t) = sublists (2 ∷ a ∷ b ∷ t) short_opening_bytes (little_endian 2 (a ∷ b ∷ [])) t (list_field a b t)

    long : (t : List ℕ) → ListShown (3 ∷ t) (long_list_head t)
    long [] = tt
    long (a ∷ []) = tt
    long (a ∷ b ∷ []) = tt
    long (a ∷ b ∷ c ∷ []) = tt
    long (a ∷ b ∷ c ∷ d ∷ t) =
        sublists (3 ∷ a ∷ b ∷ c ∷ d ∷ t) long_opening_bytes (little_endian 4 (a ∷ b ∷ c ∷ d ∷ [])) t (long_list_field a b c d t)

pub list_field_lem : (s : List ℕ) (opening n : ℕ) → field_head s ≡ Sublist opening n → ListField s (contents opening n s)
unfolding ListShown
list_field_lem s opening n e = subst (ListShown s) e (list_shown s)

pub taken_read : (u : Style) (s inner : List ℕ) → opening_of s ≡ Choice → Readable s → ListField (drop (taken_place u s) s) inner →
    TakenRead u s inner
taken_read u s inner e r f =
    let k = among_lists u.level u.cramped in
    let at = taken_place u s in
    let good = list_good_field (drop at s) (head_at s at) ((choice_at_lem s e r).lists (taken_number u) k.5) in
    let l = list_read (drop at s) inner f good.0 in
    record {
      readable = l.readable;
      items_are = sym (taken_all (list_in s) u refl refl refl refl) ∙ l.items_are;
      a = k.0;
      b = k.1;
      c = k.2;
      is = k.3 ∙ ap (λ (x : Items). choice_with u.level x k.0 k.1 k.2) l.items_are;
      place = k.4;
      part = part_within s (drop at s) inner at (list_opening_bytes (length inner)) (part_behind s at) l.part;
    }
  where
    long : (n : ℕ) → n < choice_lists → sublist_bytes (items_bytes (list_in s n)) ≡ head_bytes (head_at s (list_place s n))
    long n few = list_bytes s n ((choice_at_lem s e r).lists n few)

    among_lists : (level : Level) (cramped : Bool) →
        let n = taken_number (record { level = level; cramped = cramped }) in
        (a b c : Items)
        × (item_of s Choice ≡ choice_with level (list_in s n) a b c)
        × (placeAmong level a b c ≡ list_place s n)
        × (n < choice_lists)
    among_lists Display cramped = (list_in s 1, list_in s 2, list_in s 3, refl, refl, omega arith)
    among_lists Text cramped = (list_in s 0, list_in s 2, list_in s 3, refl, omega (arith, long 0 (omega arith)), omega arith)
    among_lists Script cramped =
        (list_in s 0, list_in s 1, list_in s 3, refl, omega (arith, long 0 (omega arith), long 1 (omega arith)), omega arith)
    among_lists Scriptscript cramped =
        (list_in s 0, list_in s 1, list_in s 2, refl, omega (arith, long 0 (omega arith), long 1 (omega arith), long 2 (omega arith)), omega arith)

-- ---- the items before a place, and the style there
record Behind (u : Style) (s : List ℕ) (at : ℕ) (v : Style) : Type 0 where
  before : Items
  readable : Readable (drop at s)
  tree : tree_of s ≡ join before (tree_of (drop at s))
  long : items_bytes before ≡ at
  style : style_after u before ≡ v

-- past the first item
past : (u v w : Style) (s : List ℕ) (at : ℕ) (o : Opening) → opening_of s ≡ o → 0 < opened_bytes o → Readable s →
    style_behind u (item_of s o) ≡ v → (Readable (drop (item_size s o) s) → Behind v (drop (item_size s o) s) at w) →
    Behind u s (item_size s o + at) w
unfolding items_bytes style_after
past u v w s at o e opened r style others =
    let size = item_size s o in
    let p = step s o e r (omega (arith, opening_fits s o e)) in
    let h = others p.rest in
    let there = drop-drop at size s in
    let tree = h.tree ∙ ap (λ (t : List ℕ). join h.before (tree_of t)) there in
    record {
      before = cons (item_of s o) h.before;
      readable = subst Readable there h.readable;
      tree = p.tree ∙ ap (cons (item_of s o)) tree;
      long = omega (arith, item_bytes_lem s o p.item, h.long);
      style = ap (λ (t : Style). style_after t h.before) style ∙ h.style;
    }

-- behind all of its items
style_at_end : (u : Style) (s : List ℕ) (v : Style) → Behind u s (length s) v → style_after u (tree_of s) ≡ v
unfolding style_after
style_at_end u s v h =
    let end : tree_of (drop (length s) s) ≡ nil = (tree_none (drop (length s) s) (omega (arith, length-drop (length s) s))).1 in
    ap (style_after u) (h.tree ∙ ap (join h.before) end) ∙ style_after_join u h.before nil ∙ h.style

items_before_lem : {u : Style} {s : List ℕ} {at : ℕ} {v : Style} → ItemAt u s at v → Readable s → Behind u s at v
unfolding items_bytes style_after style_behind
items_before_lem first r = record { before = nil; readable = r; tree = refl; long = refl; style = refl }
items_before_lem (past_fields {u} {w} {s} at kind e i) r =
    past u u w s at (Fields kind) e (omega (arith, (noad_at_lem s kind e r).opened)) r refl (λ k. items_before_lem i k)
items_before_lem (past_kern {u} {w} {s} at n e i) r = past u u w s at (Kern n) e (omega arith) r refl (λ k. items_before_lem i k)
items_before_lem (past_style {u} {v} {w} {s} at n e f i) r =
    past u v w s at (Restyle n) e (omega arith) r (ap (λ (x : Option Style). elim x [ none ↦ u | some new ↦ new ]) f)
    (λ k. items_before_lem i k)
items_before_lem (past_choice {u} {v} {w} {s} {inner} at e f t i) r =
    let h = taken_read u s inner e r f in
    past u v w s at Choice e (omega arith) r
    (style_behind_choice_lem u (list_in s 0) (list_in s 1) (list_in s 2) (list_in s 3)
    ∙ ap (style_after u) h.items_are
    ∙ style_at_end u inner v (items_before_lem t h.readable))
    (λ k. items_before_lem i k)

-- in the list that a choice takes
spot_within : (u v w : Style) (s inner item : List ℕ) (at k : ℕ) (kind : Kind) → Behind u s at v → opening_of (drop at s) ≡ Choice →
    TakenRead v (drop at s) inner → SpotOf v inner k w item kind →
    SpotOf u s (at + (taken_place v (drop at s) + list_opening_bytes (length inner)) + k) w item kind
spot_within u v w s inner item at k kind h e t m =
    let q = drop at s in
    let p = step q Choice e h.readable (omega (arith, opening_fits q Choice e)) in
    let after = tree_of (drop (item_size q Choice) q) in
    let chosen : tree_of q ≡ cons (choice_with v.level (put v m.spot (item_of item (Fields kind))) t.a t.b t.c) after =
    p.tree ∙ ap (λ (x : Item). cons x after) (t.is ∙ ap (λ (l : Items). choice_with v.level l t.a t.b t.c) m.tree)
    in
    let place = taken_place v q + list_opening_bytes (length inner) in
    let opens = ap list_opening_bytes (ap items_bytes (sym m.tree) ∙ items_bytes_lem inner t.readable) in
    record {
      spot = within h.before t.a t.b t.c m.spot after;
      noad = m.noad;
      tree = rw h.style (h.tree ∙ ap (join h.before) chosen);
      style = rw (style_after_join, h.style) m.style;
      place = rw h.style (omega (arith, h.long, t.place, m.place, opens));
      part = part_within s inner item (at + place) k (part_within s q inner at place (part_behind s at) t.part) m.part;
    }

pub spot_of : {u : Style} {s : List ℕ} {at : ℕ} {v : Style} {item : List ℕ} → SetItem u s at v item → Readable s → (kind : Kind) →
    opening_of item ≡ Fields kind → SpotOf u s at v item kind
spot_of (in_list {s = s} {at} i) r kind e =
    let h = items_before_lem i r in
    let q = drop at s in
    let n = noad_at_lem q kind e h.readable in
    let p = step q (Fields kind) e h.readable (omega (arith, n.long, n.end_in)) in
    record {
      spot = among h.before (tree_of (drop (item_size q (Fields kind)) q));
      noad = n;
      tree = h.tree ∙ ap (join h.before) p.tree;
      style = h.style;
      place = h.long;
      part = part_behind s at;
    }
spot_of (in_taken {u} {v} {w} {s} {inner} {item} {at} {k} i c f j) r kind e =
    let h = items_before_lem i r in
    let t = taken_read v (drop at s) inner c h.readable f in
    spot_within u v w s inner item at k kind h c t (spot_of j t.readable kind e)

-- ---- a list field of the first item
record Held (s : List ℕ) (kind : Kind) (u : Style) (at : ℕ) (v : Style) (sides : Sides) (field : List ℕ) : Type 0 where
  arm : Arm
  is : item_of s (Fields kind) ≡ holding kind arm (tree_of field)
  style : field_style kind arm u ≡ v
  between : sides_of (field_manner kind arm u) ≡ sides
  has : HasField kind arm
  place : field_place kind arm ≡ at
  read : ListRead (drop at s) field

held : (s : List ℕ) (kind : Kind) (u : Style) (at : ℕ) (v : Style) (sides : Sides) (field : List ℕ) → Noad s kind →
    FieldAt s kind u at v sides → ListField (drop at s) field → Held s kind u at v sides field
held s kind u at v sides field n in_one f =
    let y = field_in s (second s kind) in
    let z = third_in s (has_third kind) (third s kind) in
    let r = list_read _ field f n.x in
    record {
      arm = in_first y z;
      is = ap (λ (x : Field). noad kind x y z) r.is;
      style = refl;
      between = refl;
      has = tt;
      place = refl;
      read = r;
    }
held s kind u at v sides field n in_two f =
    let x = field_in s (opening_bytes kind) in
    let z = third_in s (has_third kind) (third s kind) in
    let r = list_read _ field f n.y in
    record {
      arm = in_second x z;
      is = ap (λ (y : Field). noad kind x y z) r.is;
      style = refl;
      between = refl;
      has = tt;
      place = second_field_lem s kind n;
      read = r;
    }
held s kind u at v sides field n (in_three has) f =
    let x = field_in s (opening_bytes kind) in
    let y = field_in s (second s kind) in
    let r = list_read _ field f (third_good s (has_third kind) (third s kind) has n.z) in
    record {
      arm = in_third x y;
      is = ap (λ (b : Bool). noad kind x y (third_in s b (third s kind))) has ∙ ap (noad kind x y) r.is;
      style = refl;
      between = refl;
      has = has;
      place = third_field_lem s kind n;
      read = r;
    }

-- ---- a list field of an item of a list: one step
record Entered (u : Style) (s : List ℕ) (place : ℕ) (v : Style) (sides : Sides) (field : List ℕ) : Type 0 where
  by : Step
  readable : Readable field
  tree : tree_of s ≡ list_with u by (tree_of field)
  style : step_style u by ≡ v
  between : step_sides u by ≡ sides
  has : HasField by.kind by.arm
  there : step_place u by (tree_of field) ≡ place + list_opening_bytes (length field)
  part : PartAt s (step_place u by (tree_of field)) field

entered : (u : Style) (s : List ℕ) (place : ℕ) (v : Style) (sides : Sides) (field : List ℕ) → Readable s →
    OwnListField u s place v sides field → Entered u s place v sides field
entered u s place v sides field r f =
    let h = spot_of f.is_set r f.kind f.opens in
    let g = held f.item f.kind f.item_style_lem f.field_place_lem v sides field h.noad f.in_item f.is_list_lem in
    let l = tree_of field in
    let by : Step = record { spot = h.spot; kind = f.kind; arm = g.arm } in
    let opening = list_opening_bytes (length field) in
    let opens = ap list_opening_bytes (items_bytes_lem field g.read.readable) in
    let spot = ap (spot_place u h.spot) (sym g.is) ∙ h.place in
    let there : f.item_place + (f.field_place_lem + opening) ≡ step_place u by l = omega (arith, spot, g.place, opens) in
    record {
      by = by;
      readable = g.read.readable;
      tree = h.tree ∙ ap (put u h.spot) g.is;
      style = ap (field_style f.kind g.arm) h.style ∙ g.style;
      between = ap (λ (w : Style). sides_of (field_manner f.kind g.arm w)) h.style ∙ g.between;
      has = g.has;
      there = omega (arith, there, f.place_is);
      part =
          subst (λ (x : ℕ). PartAt s x field) there
          (part_within s f.item field f.item_place (f.field_place_lem + opening) h.part
          (part_within f.item (drop f.field_place_lem f.item) field f.field_place_lem opening
          (part_behind f.item f.field_place_lem) g.read.part));
    }

module _ (u : Style) (formula : List ℕ) (r : Readable formula) where
  pub reached : {place : ℕ} {v : Style} {sides : Sides} {field : List ℕ} → ListFieldAt u formula place v sides field →
      Reached u formula place v sides field
  reached (own {place} {v} {sides} {field} h) =
      let e = entered u formula place v sides field r h in
      let start : step_place u e.by (tree_of field) ≡ place_of u (into whole e.by) (tree_of field) = omega arith in
      record {
        p = whole;
        t = e.by;
        readable = e.readable;
        tree = e.tree;
        style = e.style;
        between = e.between;
        has_fields = (tt, e.has);
        there = omega (arith, e.there);
        part = subst (λ (k : ℕ). PartAt formula k field) start e.part;
      }
  reached (deeper {inner = inner} {w} {sides = sides} {around} {field} h g) =
      let o = reached h in
      let p = into o.p o.t in
      let e = entered (style_at u p) around inner w sides field o.readable (rw o.style g) in
      let outer = ap (place_of u p) e.tree in
      let step = step_place (style_at u p) e.by (tree_of field) in
      record {
        p = p;
        t = e.by;
        readable = e.readable;
        tree = o.tree ∙ ap (fill u p) e.tree;
        style = e.style;
        between = e.between;
        has_fields = (o.has_fields, e.has);
        there = omega (arith, o.there, e.there, outer);
        part =
            subst (λ (k : ℕ). PartAt formula (k + step) field) outer
            (part_within formula around field (place_of u p (tree_of around)) step o.part e.part);
      }
