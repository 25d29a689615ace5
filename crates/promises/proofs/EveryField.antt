-- No list field is left out of `ListFieldAt`: of a formula that reads, every list field that is set, named by its path, stands there with its
-- place, its style, its sides and its bytes (`every_field`). It is the converse of `reached` (`ListFields`).
--     list_there_lem     a field that reads to a list is a list field of bytes that read to this list
--     items_past     behind the first items of a list the next one begins, in the style that they leave
--     spot_there     the item at a spot is an item that is set
--     own_there      a step leads to a list field of the list itself
-- Each goes from the tree back to the bytes, by the heads that `PlacesLaws` gives a readable list.
-- Assumes nothing.
use Rattle.std.specs.Prelude.{◌≡◌, refl, Bool, true, false, ◌&&◌, List, [], ◌∷◌, ℕ, zero, suc, ◌+◌, ◌-◌, ◌<◌, leb, eqb, length, take, drop}
use Rattle.std.proofs.Common.{sym, subst, subst₂, ap, ap₂, ◌∙◌, true≢false, arith, length-take, length-drop, drop-drop, eqb-true}
use Rattle.std.proofs.Math.Option.{Option, none, some}
use Rattle.std.proofs.Math.ListN.{get_elem?}
use Rattle.laws.specs.Truths.{either, both_true}
use Rattle.words.specs.Words.{little_endian}
use Rattle.formula.specs.declared.Kind.{Kind}
use Rattle.formula.specs.declared.Opening.{Opening}
use Rattle.formula.specs.declared.Opening.TheVariants.{NoItem, Fields, Kern, Restyle, Choice}
use Rattle.formula.specs.declared.FieldHead.{FieldHead}
use Rattle.formula.specs.declared.FieldHead.TheVariants.{NoField, Empty, Symbol, Sublist, CutSublist}
use Rattle.formula.specs.Format.{long_format, depth_limit}
use Rattle.formula.specs.Tree.{Items, Item, Field, nil, cons, noad, kern, restyle, choice, list, opening_bytes, short_opening_bytes, long_opening_bytes, list_opening_bytes, items_bytes, item_bytes}
use Rattle.formula.specs.Heads.{greatest_family, opening_of, symbol_head, sublist_head, list_head, long_list_head, field_head_under, field_head}
use Rattle.formula.specs.Reading.{good, read_formula}
use Rattle.formula.specs.Places.{Readable, tree_of, contents, field_of, GoodField, choice_lists, has_third, head_at, second, third, item_size, field_in, third_in, list_in, item_of, second_field, third_field}
use Rattle.formula.specs.HeadLaws.{opening_some, style_small}
use Rattle.formula.specs.ReadingLaws.{by_length}
use Rattle.formula.specs.PlacesLaws.{readable_of, tree_is, tree_none, items_bytes_lem, Stepped, step, Noad, noad_at_lem, choice_at_lem, third_good, list_good_field, item_bytes_lem, second_field_lem, third_field_lem}
use Rattle.formula.specs.FormatLaws.{reads_so}
use Rattle.boxes.specs.declared.styles.Level.{Level}
use Rattle.boxes.specs.declared.styles.Level.TheVariants.{Display, Text, Script, Scriptscript}
use Rattle.boxes.specs.declared.styles.Style.{Style}
use Rattle.boxes.specs.Styles.{styles, style_of}
use Rattle.setting.specs.Setting.{style_after, style_behind, sides_of}
use Rattle.setting.proofs.SettingLaws.{style_behind_choice_lem}
use Rattle.setting.proofs.Lines.{style_after_join}
use Rattle.setting.specs.Paths.{Arm, in_first, in_second, in_third, holding, field_style, field_manner, field_place, join, choice_with, list_place as placeAmong, Spot, among, within, put, items_before, spot_place, Step, holder, list_with, item_style, step_style, step_sides, step_place, Path, whole, into, fill, style_at, sides_at, place_of}
use Rattle.promises.specs.FieldBytes.{field_part, field_reads}
use Rattle.promises.specs.ListFields.{ListField, list_field, long_list_field, taken_number, taken_place, ItemAt, first, past_fields, past_kern, past_style, past_choice, SetItem, in_list, in_taken, FieldAt, in_one, in_two, in_three, OwnListField, ListFieldAt, own, deeper, TakenRead}
use Rattle.promises.proofs.ListFields.{taken_read, reached}

-- ---- a list field, from what its head says

-- this is a list field, if its head is that of a list
abbrev IsList : List ℕ → ℕ → ℕ → FieldHead → Type 0
IsList s opening n h = h ≡ Sublist opening n → ListField s (contents opening n s)

symbol_there : (kind : ℕ) (r : List ℕ) (opening n : ℕ) → IsList (kind ∷ r) opening n (symbol_head r)
unfolding symbol_head
symbol_there kind [] opening n e = let z : ◌≡◌ {A = ℕ} 0 1 = cc in absurd (omega arith)
symbol_there kind (family ∷ []) opening n e = let z : ◌≡◌ {A = ℕ} 0 1 = cc in absurd (omega arith)
symbol_there kind (family ∷ code ∷ r) opening n e =
    either (IsList (kind ∷ family ∷ code ∷ r) opening n) (leb family greatest_family)
    (λ t q. let z : ◌≡◌ {A = ℕ} 0 1 = cc in absurd (omega arith)) (λ t q. let z : ◌≡◌ {A = ℕ} 0 1 = cc in absurd (omega arith)) e

-- a list's head says its opening and its length
sublist_is : (o m : ℕ) (r : List ℕ) (opening n : ℕ) → sublist_head o m r ≡ Sublist opening n → (o ≡ opening) × (m ≡ n)
unfolding sublist_head
sublist_is o m r opening n e =
    either (λ (h : FieldHead). h ≡ Sublist opening n → (o ≡ opening) × (m ≡ n)) (eqb o (list_opening_bytes m) && leb m (length r))
    (λ t q. ((cc), (cc))) (λ t q. let z : ◌≡◌ {A = ℕ} 0 1 = cc in absurd (omega arith)) e

short_there : (r : List ℕ) (opening n : ℕ) → IsList (2 ∷ r) opening n (list_head r)
unfolding list_head
short_there [] opening n e = let z : ◌≡◌ {A = ℕ} 0 1 = cc in absurd (omega arith)
short_there (a ∷ []) opening n e = let z : ◌≡◌ {A = ℕ} 0 1 = cc in absurd (omega arith)
short_there (a ∷ b ∷ r) opening n e =
    let is = sublist_is short_opening_bytes (little_endian 2 (a ∷ b ∷ [])) r opening n e in
    subst₂ (λ (o m : ℕ). ListField (2 ∷ a ∷ b ∷ r) (contents o m (2 ∷ a ∷ b ∷ r))) is.0 is.1 (list_field a b r)

long_there : (r : List ℕ) (opening n : ℕ) → IsList (3 ∷ r) opening n (long_list_head r)
unfolding long_list_head
long_there [] opening n e = let z : ◌≡◌ {A = ℕ} 0 1 = cc in absurd (omega arith)
long_there (a ∷ []) opening n e = let z : ◌≡◌ {A = ℕ} 0 1 = cc in absurd (omega arith)
long_there (a ∷ b ∷ []) opening n e = let z : ◌≡◌ {A = ℕ} 0 1 = cc in absurd (omega arith)
long_there (a ∷ b ∷ c ∷ []) opening n e = let z : ◌≡◌ {A = ℕ} 0 1 = cc in absurd (omega arith)
long_there (a ∷ b ∷ c ∷ d ∷ r) opening n e =
    let is = sublist_is long_opening_bytes (little_endian 4 (a ∷ b ∷ c ∷ d ∷ [])) r opening n e in
    subst₂ (λ (o m : ℕ). ListField (3 ∷ a ∷ b ∷ c ∷ d ∷ r) (contents o m (3 ∷ a ∷ b ∷ c ∷ d ∷ r))) is.0 is.1 (long_list_field a b c d r)

head_there : (s : List ℕ) (opening n : ℕ) → IsList s opening n (field_head s)
unfolding field_head_under
head_there [] opening n e = let z : ◌≡◌ {A = ℕ} 0 1 = cc in absurd (omega arith)
head_there (kind ∷ r) opening n e =
    let P = IsList (kind ∷ r) opening n in
    either P (eqb kind 0) (λ t q. let z : ◌≡◌ {A = ℕ} 0 1 = cc in absurd (omega arith)) (λ t.
    either P (eqb kind 1) (λ t. symbol_there kind r opening n) (λ t.
    either P (eqb kind 2)
    (λ t. subst (λ (k : ℕ). IsList (k ∷ r) opening n (list_head r)) (sym (eqb-true kind 2 t)) (short_there r opening n)) (λ t.
    either P (eqb kind 3 && true)
    (λ t. subst (λ (k : ℕ). IsList (k ∷ r) opening n (long_list_head r)) (sym (eqb-true kind 3 (both_true t).0)) (long_there r opening n))
    (λ t q. let z : ◌≡◌ {A = ℕ} 0 1 = cc in absurd (omega arith))))) e

-- a list field that reads to this list
record Found (s : List ℕ) (l : Items) : Type 0 where
  field : List ℕ
  is_list_lem : ListField s field
  readable : Readable field
  tree : tree_of field ≡ l

list_there_lem : (s : List ℕ) (l : Items) → GoodField s (field_head s) → field_of s (field_head s) ≡ list l → Found s l
list_there_lem s l = go (field_head s) refl
  where
    go : (h : FieldHead) → field_head s ≡ h → GoodField s h → field_of s h ≡ list l → Found s l
    go NoField e g q = absurd g
    go Empty e g q = let z : ◌≡◌ {A = ℕ} 0 1 = cc in absurd (omega arith)
    go (Symbol family code) e g q = let z : ◌≡◌ {A = ℕ} 0 1 = cc in absurd (omega arith)
    go (Sublist opening n) e g q =
        record { field = contents opening n s; is_list_lem = head_there s opening n e; readable = g; tree = cc }
    go CutSublist e g q = absurd g

-- ---- the list that a choice takes

record Taken (u : Style) (s : List ℕ) : Type 0 where
  inner : List ℕ
  is_list_lem : ListField (drop (taken_place u s) s) inner
  read : TakenRead u s inner

taken_few : (u : Style) → taken_number u < choice_lists
taken_few u = go u.level u.cramped
  where
    go : (level : Level) (cramped : Bool) → taken_number (record { level = level; cramped = cramped }) < choice_lists
    go Display cramped = omega arith
    go Text cramped = omega arith
    go Script cramped = omega arith
    go Scriptscript cramped = omega arith

taken_there : (u : Style) (s : List ℕ) → opening_of s ≡ Choice → Readable s → Taken u s
taken_there u s e r =
    let at = taken_place u s in
    let good = list_good_field (drop at s) (head_at s at) ((choice_at_lem s e r).lists (taken_number u) (taken_few u)) in
    let f = list_there_lem (drop at s) _ good.0 good.1 in
    record { inner = f.field; is_list_lem = f.is_list_lem; read = taken_read u s f.field e r f.is_list_lem }

-- it is shorter than what holds it
taken_shorter : (u : Style) (s inner : List ℕ) → 0 < length s → TakenRead u s inner → length inner < length s
taken_shorter u s inner full t =
    let at = taken_place u s + list_opening_bytes (length inner) in
    omega (arith, ap length t.part, length-take (length inner) (drop at s), length-drop at s, opening_some (length inner))

-- ---- the items before a place

-- a list has an element at each place below its length
element_there : {A : Type 0} (l : List A) (n : ℕ) → n < length l → (v : A) × (get_elem? l n ≡ some v)
element_there [] n h = absurd (omega arith)
element_there (x ∷ l) zero h = (x, refl)
element_there (x ∷ l) (suc n) h = element_there l n (omega arith)

-- a style change says one of the eight styles
style_there : (s : List ℕ) (n : ℕ) → opening_of s ≡ Restyle n → (v : Style) × (style_of n ≡ some v)
unfolding style_of
style_there s n e = element_there styles n (omega (arith, style_small s n e))

record PastItems (u : Style) (s : List ℕ) (before rest : Items) : Type 0 where
  at : ItemAt u s (items_bytes before) (style_after u before)
  readable : Readable (drop (items_bytes before) s)
  tree : tree_of (drop (items_bytes before) s) ≡ rest

-- what has a first item has a byte
some_item : (s : List ℕ) (i : Item) (r : Items) → tree_of s ≡ cons i r → 0 < length s
some_item s i r e = go (length s) refl
  where
    go : (n : ℕ) → length s ≡ n → 0 < length s
    go zero z = let none = (tree_none s z).1 in let no : ◌≡◌ {A = ℕ} 0 1 = cc in absurd (omega arith)
    go (suc n) z = omega arith

cons_first : {i j : Item} {l m : Items} → cons i l ≡ cons j m → i ≡ j
cons_first e = cc

join_nil : (l : Items) → l ≡ join l nil
join_nil nil = refl
join_nil (cons i l) = ap (cons i) (join_nil l)

Past : List ℕ → Type 0
Past s = (u : Style) (before rest : Items) → Readable s → tree_of s ≡ join before rest → PastItems u s before rest

-- past the first item, by what it opens with
past_first : (u : Style) (s : List ℕ) → ((r : List ℕ) → length r < length s → Past r) → 0 < length s → Readable s → (o : Opening) →
    opening_of s ≡ o → Stepped s o → (at : ℕ) (w : Style) → ItemAt (style_behind u (item_of s o)) (drop (item_size s o) s) at w →
    ItemAt u s (item_size s o + at) w
unfolding Past style_behind
past_first u s ih full r NoItem e p at w h = absurd p.item
past_first u s ih full r (Fields kind) e p at w h = past_fields at kind e h
past_first u s ih full r (Kern n) e p at w h = past_kern at n e h
past_first u s ih full r (Restyle n) e p at w h =
    let f = style_there s n e in
    past_style at n e f.1
    (subst (λ (v : Style). ItemAt v (drop (item_size s (Restyle n)) s) at w) (ap (λ (x : Option Style). elim x [ none ↦ u | some new ↦ new ]) f.1) h)
past_first u s ih full r Choice e p at w h =
    let t = taken_there u s e r in
    let inner = t.inner in
    let all = (ih inner (taken_shorter u s inner full t.read) u (tree_of inner) nil t.read.readable (join_nil (tree_of inner))).at in
    let behind = style_behind_choice_lem u (list_in s 0) (list_in s 1) (list_in s 2) (list_in s 3) ∙ ap (style_after u) t.read.items_are in
    past_choice at e t.is_list_lem
    (subst (λ (n : ℕ). ItemAt u inner n (style_after u (tree_of inner))) (items_bytes_lem inner t.read.readable) all)
    (subst (λ (v : Style). ItemAt v (drop (item_size s Choice) s) at w) behind h)

past_step : (s : List ℕ) → ((r : List ℕ) → length r < length s → Past r) → Past s
unfolding Past items_bytes style_after
past_step s ih u nil rest r e = record { at = first; readable = r; tree = e }
past_step s ih u (cons i before) rest r e =
    let full = some_item s i (join before rest) e in
    let o = opening_of s in
    let size = item_size s o in
    let p = step s o refl r full in
    let is : item_of s o ≡ i = cc in
    let others : tree_of (drop size s) ≡ join before rest = cc in
    let h = ih (drop size s) (omega (arith, length-drop size s, p.some, p.fits)) (style_behind u i) before rest p.rest others in
    let long : item_bytes i ≡ size = ap item_bytes (sym is) ∙ item_bytes_lem s o p.item in
    let there = drop-drop (items_bytes before) size s in
    let goes = past_first u s ih full r o refl p (items_bytes before) (style_after (style_behind u i) before) (rw is h.at) in
    record {
      at = rw long goes;
      readable = rw long (subst Readable there h.readable);
      tree = rw long (ap tree_of (sym there) ∙ h.tree);
    }

items_past : (s : List ℕ) (u : Style) (before rest : Items) → Readable s → tree_of s ≡ join before rest → PastItems u s before rest
unfolding Past
items_past = by_length Past past_step

-- ---- the item at a spot

record SpotThere (u : Style) (s : List ℕ) (spot : Spot) (i : Item) : Type 0 where
  item : List ℕ
  is_set : SetItem u s (spot_place u spot i) (style_after u (items_before spot)) item
  readable : Readable item
  after : Items
  tree : tree_of item ≡ cons i after

-- a choice is read from a choice
abbrev is_choice : Item → Bool
is_choice (noad kind x y z) = false
is_choice (kern n) = false
is_choice (restyle n) = false
is_choice (choice d t sc ss) = true

choice_with_lem : (level : Level) (l a b c : Items) → is_choice (choice_with level l a b c) ≡ true
choice_with_lem Display l a b c = refl
choice_with_lem Text l a b c = refl
choice_with_lem Script l a b c = refl
choice_with_lem Scriptscript l a b c = refl

choice_opens : (s : List ℕ) (o : Opening) → is_choice (item_of s o) ≡ true → o ≡ Choice
choice_opens s NoItem e = absurd (true≢false (sym e))
choice_opens s (Fields kind) e = absurd (true≢false (sym e))
choice_opens s (Kern n) e = absurd (true≢false (sym e))
choice_opens s (Restyle n) e = absurd (true≢false (sym e))
choice_opens s Choice e = refl

choice_same : (level : Level) {l a b c l' a' b' c' : Items} → choice_with level l a b c ≡ choice_with level l' a' b' c' →
    (l ≡ l') × (a ≡ a') × (b ≡ b') × (c ≡ c')
choice_same Display e = ((cc), (cc), (cc), (cc))
choice_same Text e = ((cc), (cc), (cc), (cc))
choice_same Script e = ((cc), (cc), (cc), (cc))
choice_same Scriptscript e = ((cc), (cc), (cc), (cc))

spot_within : (u : Style) (s : List ℕ) (before a b c after : Items) (spot : Spot) (i : Item) →
    let t = style_after u before in
    PastItems u s before (cons (choice_with t.level (put t spot i) a b c) after) →
    ((inner : List ℕ) → Readable inner → tree_of inner ≡ put t spot i → SpotThere t inner spot i) →
    SpotThere u s (within before a b c spot after) i
spot_within u s before a b c after spot i h deeper-in =
    let t = style_after u before in
    let q = drop (items_bytes before) s in
    let item = choice_with t.level (put t spot i) a b c in
    let o = opening_of q in
    let p = step q o refl h.readable (some_item q item after h.tree) in
    let is : item_of q o ≡ item = cons_first (sym p.tree ∙ h.tree) in
    let opens = choice_opens q o (ap is_choice is ∙ choice_with_lem t.level (put t spot i) a b c) in
    let k = taken_there t q opens h.readable in
    let same = choice_same t.level (sym k.read.is ∙ ap (item_of q) (sym opens) ∙ is) in
    let m = deeper-in k.inner k.read.readable same.0 in
    let opening : list_opening_bytes (length k.inner) ≡ list_opening_bytes (items_bytes (put t spot i)) =
    ap list_opening_bytes (sym (items_bytes_lem k.inner k.read.readable) ∙ ap items_bytes same.0)
    in
    let place : taken_place t q ≡ placeAmong t.level a b c =
    sym k.read.place
    ∙ ap₂ (λ (x y : Items). placeAmong t.level x y k.read.c) same.1 same.2
    ∙ ap (placeAmong t.level a b) same.3
    in
    record {
      item = m.item;
      is_set =
          subst₂ (λ (n : ℕ) (v : Style). SetItem u s (items_bytes before + n + spot_place t spot i) v m.item)
          (ap₂ ◌+◌ place opening) (sym (style_after_join u before (items_before spot)))
          (in_taken h.at opens k.is_list_lem m.is_set);
      readable = m.readable;
      after = m.after;
      tree = m.tree;
    }

spot_there : (u : Style) (spot : Spot) (i : Item) (s : List ℕ) → Readable s → tree_of s ≡ put u spot i → SpotThere u s spot i
spot_there u (among before after) i s r e =
    let h = items_past s u before (cons i after) r e in
    record {
      item = drop (items_bytes before) s;
      is_set = in_list h.at;
      readable = h.readable;
      after = after;
      tree = h.tree;
    }
spot_there u (within before a b c spot after) i s r e =
    let t = style_after u before in
    spot_within u s before a b c after spot i (items_past s u before (cons (choice_with t.level (put t spot i) a b c) after) r e)
    (λ inner. spot_there t spot i inner)

-- ---- a field of the item

-- an item with fields is read from one of its kind
fields_open : (s : List ℕ) (o : Opening) (kind : Kind) (x y z : Field) → item_of s o ≡ noad kind x y z → o ≡ Fields kind
fields_open s NoItem kind x y z e = let no : ◌≡◌ {A = ℕ} 0 1 = cc in absurd (omega arith)
fields_open s (Fields k) kind x y z e = ap Fields (cc)
fields_open s (Kern n) kind x y z e = let no : ◌≡◌ {A = ℕ} 0 1 = cc in absurd (omega arith)
fields_open s (Restyle n) kind x y z e = let no : ◌≡◌ {A = ℕ} 0 1 = cc in absurd (omega arith)
fields_open s Choice kind x y z e = let no : ◌≡◌ {A = ℕ} 0 1 = cc in absurd (omega arith)

holding_opens : (s : List ℕ) (o : Opening) (kind : Kind) (g : Arm) (l : Items) → item_of s o ≡ holding kind g l → o ≡ Fields kind
holding_opens s o kind (in_first y z) l e = fields_open s o kind (list l) y z e
holding_opens s o kind (in_second x z) l e = fields_open s o kind x (list l) z e
holding_opens s o kind (in_third x y) l e = fields_open s o kind x y (list l) e

-- a third field that is a list is there
third_there_lem : (s : List ℕ) (has : Bool) (at : ℕ) (l : Items) → third_in s has at ≡ list l → (has ≡ true) × (field_in s at ≡ list l)
third_there_lem s true at l e = (refl, e)
third_there_lem s false at l e = let z : ◌≡◌ {A = ℕ} 0 1 = cc in absurd (omega arith)

record FieldThere (s : List ℕ) (kind : Kind) (g : Arm) (u : Style) (l : Items) : Type 0 where
  at : ℕ
  in_item : FieldAt s kind u at (field_style kind g u) (sides_of (field_manner kind g u))
  place : field_place kind g ≡ at
  found : Found (drop at s) l

field_there : (s : List ℕ) (kind : Kind) (g : Arm) (u : Style) (l : Items) → Noad s kind → item_of s (Fields kind) ≡ holding kind g l →
    FieldThere s kind g u l
field_there s kind (in_first y z) u l n e =
    record {
      at = opening_bytes kind;
      in_item = in_one;
      place = refl;
      found = list_there_lem (drop (opening_bytes kind) s) l n.x (cc);
    }
field_there s kind (in_second x z) u l n e =
    let before : field_in s (opening_bytes kind) ≡ x = cc in
    record {
      at = second s kind;
      in_item = in_two;
      place = ap (second_field kind) (sym before) ∙ second_field_lem s kind n;
      found = list_there_lem (drop (second s kind) s) l n.y (cc);
    }
field_there s kind (in_third x y) u l n e =
    let one : field_in s (opening_bytes kind) ≡ x = cc in
    let two : field_in s (second s kind) ≡ y = cc in
    let has = third_there_lem s (has_third kind) (third s kind) l (cc) in
    record {
      at = third s kind;
      in_item = in_three has.0;
      place = ap₂ (third_field kind) (sym one) (sym two) ∙ third_field_lem s kind n;
      found = list_there_lem (drop (third s kind) s) l (third_good s (has_third kind) (third s kind) has.0 n.z) has.1;
    }

-- ---- one step

record OwnThere (u : Style) (s : List ℕ) (t : Step) (l : Items) : Type 0 where
  place : ℕ
  field : List ℕ
  is_own : OwnListField u s place (step_style u t) (step_sides u t) field
  there : step_place u t l ≡ place + list_opening_bytes (length field)
  readable : Readable field
  tree : tree_of field ≡ l

own_there : (u : Style) (t : Step) (l : Items) (s : List ℕ) → Readable s → tree_of s ≡ list_with u t l → OwnThere u s t l
own_there u t l s r e =
    let h = spot_there u t.spot (holder t l) s r e in
    let item = h.item in
    let o = opening_of item in
    let p = step item o refl h.readable (some_item item (holder t l) h.after h.tree) in
    let is : item_of item o ≡ holder t l = cons_first (sym p.tree ∙ h.tree) in
    let opens = holding_opens item o t.kind t.arm l is in
    let f = field_there item t.kind t.arm (item_style u t) l (noad_at_lem item t.kind opens h.readable) (ap (item_of item) (sym opens) ∙ is) in
    let field = f.found.field in
    let long = ap list_opening_bytes (ap items_bytes (sym f.found.tree) ∙ items_bytes_lem field f.found.readable) in
    record {
      place = spot_place u t.spot (holder t l) + f.at;
      field = field;
      is_own = record {
        item_place = spot_place u t.spot (holder t l);
        item_style_lem = item_style u t;
        item = item;
        is_set = h.is_set;
        kind = t.kind;
        opens = opens;
        field_place_lem = f.at;
        in_item = f.in_item;
        place_is = refl;
        is_list_lem = f.found.is_list_lem;
      };
      there = omega (arith, f.place, long);
      readable = f.found.readable;
      tree = f.found.tree;
    }

-- ---- a path

record PathThere (u : Style) (formula : List ℕ) (p : Path) (t : Step) (l : Items) : Type 0 where
  place : ℕ
  field : List ℕ
  listed : ListFieldAt u formula place (style_at u (into p t)) (sides_at u (into p t)) field
  there : place_of u (into p t) l ≡ place + list_opening_bytes (length field)
  readable : Readable field
  tree : tree_of field ≡ l

path_there : (u : Style) (formula : List ℕ) → Readable formula → (p : Path) (t : Step) (l : Items) →
    tree_of formula ≡ fill u (into p t) l → PathThere u formula p t l
path_there u formula r whole t l e =
    let o = own_there u t l formula r e in
    record {
      place = o.place;
      field = o.field;
      listed = own o.is_own;
      there = omega (arith, o.there);
      readable = o.readable;
      tree = o.tree;
    }
path_there u formula r (into p q) t l e =
    let v = style_at u (into p q) in
    let outer = path_there u formula r p q (list_with v t l) e in
    let o = own_there v t l outer.field outer.readable outer.tree in
    record {
      place = outer.place + list_opening_bytes (length outer.field) + o.place;
      field = o.field;
      listed = deeper outer.listed o.is_own;
      there = omega (arith, outer.there, o.there);
      readable = o.readable;
      tree = o.tree;
    }

-- ---- a formula

-- the list l that stands at a path of the formula, in the style s: the place of its kind byte, and its bytes
pub record ListedAt (s : Style) (formula : List ℕ) (p : Path) (t : Step) (l : Items) : Type 0 where
  pub place : ℕ
  pub field : List ℕ
  pub listed : ListFieldAt s formula place (style_at s (into p t)) (sides_at s (into p t)) field
  pub there : place_of s (into p t) l ≡ place + list_opening_bytes (length field)
  pub bytes_are : field_part s (into p t) l formula ≡ field
  pub reads : read_formula field ≡ good l

pub every_field : (s : Style) (formula : List ℕ) (p : Path) (t : Step) (l : Items) →
    read_formula formula ≡ good (fill s (into p t) l) → ListedAt s formula p t l
every_field s formula p t l e =
    let tree = fill s (into p t) l in
    let read = (reads_so long_format formula tree e).1 in
    let readable = readable_of formula (depth_limit - 1) tree read in
    let h = path_there s formula readable p t l (tree_is formula (depth_limit - 1) tree read) in
    let w = reached s formula readable h.listed in
    let long : items_bytes l ≡ length h.field = ap items_bytes (sym h.tree) ∙ items_bytes_lem h.field h.readable in
    let bytes = ap₂ (λ (n k : ℕ). take n (drop k formula)) long (h.there ∙ sym w.there) ∙ sym w.part in
    record {
      place = h.place;
      field = h.field;
      listed = h.listed;
      there = h.there;
      bytes_are = bytes;
      reads = ap read_formula (sym bytes) ∙ field_reads formula s (into p t) l e;
    }

-- the same with the place and the bytes that the path has
pub listed_at : (s : Style) (formula : List ℕ) (p : Path) (t : Step) (l : Items) (place : ℕ) (field : List ℕ) →
    read_formula formula ≡ good (fill s (into p t) l) → field_part s (into p t) l formula ≡ field →
    place_of s (into p t) l ≡ place + list_opening_bytes (length field) →
    ListFieldAt s formula place (style_at s (into p t)) (sides_at s (into p t)) field
listed_at s formula p t l place field e bytes there =
    let h = every_field s formula p t l e in
    let same : h.field ≡ field = sym h.bytes_are ∙ bytes in
    let at : h.place ≡ place = omega (arith, h.there, there, ap (λ (b : List ℕ). list_opening_bytes (length b)) same) in
    subst₂ (λ (n : ℕ) (b : List ℕ). ListFieldAt s formula n (style_at s (into p t)) (sides_at s (into p t)) b) at same h.listed
