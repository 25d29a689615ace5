-- The bytes of a list field, as a formula: they read to the field's list.
--     PartAt           bytes that stand at a place of a list; `part_within`: a part of a part is a part
--     field_part        the bytes of the formula from the field's place on, as many as its list is written in
--     field_reads      if the formula reads to the tree that has the list l at the path p, those bytes read to l
-- A list at the path's end is read with fewer levels than the formula, and reads to the same tree with as many (`agree`). So is the
-- list that a choice takes, on the way to it.
-- Assumes nothing.
use Rattle.std.specs.Prelude.{◌≡◌, Bool, true, false, List, take, drop}
use Rattle.std.proofs.Math.Path.{refl, subst, ap, ap₂}
use Rattle.std.proofs.Common.{sym, ◌∙◌, length-take, take_all, drop-drop}
use Prim.Native.Nat.{ℕ, zero, suc, ◌+◌, ◌-◌, ◌≤◌, ◌<◌}
use native.Mathlib.Omega.{arith}
use Rattle.std.proofs.Math.ListN.{length, length-drop}
use Rattle.laws.specs.Lists.{take_within}
use Rattle.formula.specs.declared.Kind.{Kind}
use Rattle.formula.specs.declared.Opening.{Opening}
use Rattle.formula.specs.declared.Opening.TheVariants.{NoItem, Fields, Kern, Restyle, Choice}
use Rattle.formula.specs.declared.FieldHead.{FieldHead}
use Rattle.formula.specs.declared.FieldHead.TheVariants.{NoField, Empty, Symbol, Sublist, CutSublist}
use Rattle.formula.specs.Format.{long_format, formula_limit, depth_limit}
use Rattle.formula.specs.Tree.{Items, Item, Field, nil, cons, noad, kern, restyle, choice, list, opening_bytes, list_opening_bytes, items_bytes, item_bytes, field_bytes}
use Rattle.formula.specs.Heads.{opening_of, field_head}
use Rattle.formula.specs.Reading.{good, read, read_formula}
use Rattle.formula.specs.Places.{head_bytes, contents, has_third, head_at, second, third, list_place, item_size}
use Rattle.formula.specs.HeadLaws.{list_opening_lem, contents_shorter}
use Rattle.formula.specs.ReadingLaws.{FieldIs, FieldAtIs, ThirdIs, ItemIs, Below, size_fits_lem, read_none, list_good, agree}
use Rattle.formula.specs.PlacesLaws.{readable_of, tree_is, items_bytes_lem}
use Rattle.formula.specs.FormatLaws.{reads_so, so_reads}
use Rattle.boxes.specs.declared.styles.Level.{Level}
use Rattle.boxes.specs.declared.styles.Level.TheVariants.{Display, Text, Script, Scriptscript}
use Rattle.boxes.specs.declared.styles.Style.{Style}
use Rattle.setting.specs.Setting.{style_after}
use Rattle.setting.specs.Paths.{Arm, in_first, in_second, in_third, holding, field_place, join, choice_with, list_place as taken_place, Spot, among, within, put, spot_place, Step, holder, list_with, step_place, Path, whole, into, fill, style_at, place_of}

abbrev pub field_part : Style → Path → Items → List ℕ → List ℕ
field_part s p l formula = take (items_bytes l) (drop (place_of s p l) formula)

-- ---- a part of a list

abbrev pub PartAt : List ℕ → ℕ → List ℕ → Type 0
PartAt s at part = part ≡ take (length part) (drop at s)

pub part_behind : (s : List ℕ) (at : ℕ) → PartAt s at (drop at s)
part_behind s at = sym (take_all (length (drop at s)) (drop at s) (omega arith))

-- the n bytes at k of the N bytes at K, where there are n
part_of_part : (s : List ℕ) (K k N n : ℕ) → n ≡ length (take n (drop k (take N (drop K s)))) →
    take n (drop k (take N (drop K s))) ≡ take n (drop (K + k) s)
part_of_part s K k N zero long = refl
part_of_part s K k N (suc n) long =
    let r = drop K s in
    let h : k + suc n ≤ N =
    omega (arith, length-take (suc n) (drop k (take N r)), length-drop k (take N r), length-take N r)
    in
    take_within k (suc n) N r h ∙ ap (take (suc n)) (drop-drop k K s)

pub part_within : (s t r : List ℕ) (K k : ℕ) → PartAt s K t → PartAt t k r → PartAt s (K + k) r
part_within s t r K k outer inner =
    let same : r ≡ take (length r) (drop k (take (length t) (drop K s))) =
    inner ∙ ap (λ (x : List ℕ). take (length r) (drop k x)) outer
    in
    same ∙ part_of_part s K k (length t) (length r) (ap length same)

-- ---- what reads

-- a list is as long as its tree is written
written : (levels : ℕ) (s : List ℕ) (l : Items) → read levels s ≡ good l → items_bytes l ≡ length s
written levels s l e = ap items_bytes (sym (tree_is s levels l e)) ∙ items_bytes_lem s (readable_of s levels l e)

-- a list that reads one level below reads on this level too
inner_reads : (levels : ℕ) (s : List ℕ) (l : Items) → Below read levels s l → read levels s ≡ good l
inner_reads zero s l b = absurd b
inner_reads (suc levels) s l b = agree s levels (suc levels) l b (omega arith)

module _ (levels : ℕ) where
  -- at a place of s stand bytes that read to l
  record ReadAt (s : List ℕ) (place : ℕ) (l : Items) : Type 0 where
    bytes : List ℕ
    part : PartAt s place bytes
    reads : read levels bytes ≡ good l

  read_within : (s t : List ℕ) (K k : ℕ) (l : Items) → PartAt s K t → ReadAt t k l → ReadAt s (K + k) l
  read_within s t K k l outer h =
      record { bytes = h.bytes; part = part_within s t h.bytes K k outer h.part; reads = h.reads }

  -- ---- a field, by its head

  field_length : (s : List ℕ) (h : FieldHead) (f : Field) → field_head s ≡ h → FieldIs (Below read levels) s h f →
      head_bytes h ≡ field_bytes f
  unfolding field_bytes
  field_length s NoField f e i = absurd i
  field_length s Empty f e i = rw i
  field_length s (Symbol family code) f e i = rw i
  field_length s (Sublist opening n) f e i =
      let inner = contents opening n s in
      let long : n ≡ items_bytes i.0 =
      omega (arith, contents_shorter s opening n e, written levels inner i.0 (inner_reads levels inner i.0 i.1))
      in
      ap₂ ◌+◌ (list_opening_lem s opening n e ∙ ap list_opening_bytes long) long ∙ ap field_bytes (sym i.2)
  field_length s CutSublist f e i = absurd i

  list_inside : (s : List ℕ) (h : FieldHead) (l : Items) → field_head s ≡ h → FieldIs (Below read levels) s h (list l) →
      ReadAt s (list_opening_bytes (items_bytes l)) l
  list_inside s NoField l e i = absurd i
  list_inside s Empty l e i = let z : ◌≡◌ {A = ℕ} 0 1 = cc in absurd (omega arith)
  list_inside s (Symbol family code) l e i = let z : ◌≡◌ {A = ℕ} 0 1 = cc in absurd (omega arith)
  list_inside s (Sublist opening n) l e i =
      let inner = contents opening n s in
      let same : i.0 ≡ l = cc in
      let reads = inner_reads levels inner i.0 i.1 ∙ ap good same in
      let long : length inner ≡ n = (contents_shorter s opening n e).0 in
      let opens = list_opening_lem s opening n e ∙ ap list_opening_bytes (sym (written levels inner l reads ∙ long)) in
      record { bytes = inner; part = ap₂ (λ (o k : ℕ). contents o k s) opens (sym long); reads = reads }
  list_inside s CutSublist l e i = absurd i

  -- ---- an item, from its first byte on

  module _ (s : List ℕ) where
    abbrev StandsAt : ℕ → Field → Type 0
    StandsAt at f = FieldAtIs (Below read levels) s at f

    list_at_lem : (at place : ℕ) (l : Items) → StandsAt at (list l) → at ≡ place →
        ReadAt s (place + list_opening_bytes (items_bytes l)) l
    list_at_lem at place l i there =
        let opening = list_opening_bytes (items_bytes l) in
        subst (λ (k : ℕ). ReadAt s (k + opening) l) there
        (read_within s (drop at s) at opening l (part_behind s at) (list_inside (drop at s) (head_at s at) l refl i))

    length_at : (at : ℕ) (f : Field) → StandsAt at f → head_bytes (head_at s at) ≡ field_bytes f
    length_at at f i = field_length (drop at s) (head_at s at) f refl i

    third_at_lem : (there : Bool) (at place : ℕ) (l : Items) → ThirdIs (Below read levels) s there at (list l) → at ≡ place →
        ReadAt s (place + list_opening_bytes (items_bytes l)) l
    third_at_lem true at place l i e = list_at_lem at place l i e
    third_at_lem false at place l i e = let z : ◌≡◌ {A = ℕ} 0 1 = cc in absurd (omega arith)

    -- its fields, one behind the other
    abbrev Stands : Item → Type 0
    Stands (noad kind x y z) =
        StandsAt (opening_bytes kind) x
        × StandsAt (second s kind) y
        × ThirdIs (Below read levels) s (has_third kind) (third s kind) z
    Stands (kern n) = Unit {0}
    Stands (restyle n) = Unit {0}
    Stands (choice d t sc ss) =
        StandsAt (list_place s 0) (list d)
        × StandsAt (list_place s 1) (list t)
        × StandsAt (list_place s 2) (list sc)
        × StandsAt (list_place s 3) (list ss)

    stands : (o : Opening) (i : Item) → ItemIs (Below read levels) s o i → Stands i
    stands NoItem i h = absurd h
    stands (Fields kind) i h = subst Stands (sym h.is) (h.a_is, h.b_is, h.c_is)
    stands (Kern n) i h = subst Stands (sym h) tt
    stands (Restyle n) i h = subst Stands (sym h) tt
    stands Choice i h =
        subst Stands (sym h.is)
        (h.are 0 (omega arith), h.are 1 (omega arith), h.are 2 (omega arith), h.are 3 (omega arith))

    item_inside : (kind : Kind) (g : Arm) (l : Items) → Stands (holding kind g l) →
        ReadAt s (field_place kind g + list_opening_bytes (items_bytes l)) l
    item_inside kind (in_first y z) l h = list_at_lem (opening_bytes kind) _ l h.0 refl
    item_inside kind (in_second x z) l h = list_at_lem (second s kind) _ l h.1 (omega (arith, length_at (opening_bytes kind) x h.0))
    item_inside kind (in_third x y) l h =
        third_at_lem (has_third kind) (third s kind) _ l h.2
        (omega (arith, length_at (opening_bytes kind) x h.0, length_at (second s kind) y h.1))

    choice_inside : (level : Level) (l a b c : Items) → Stands (choice_with level l a b c) →
        ReadAt s (taken_place level a b c + list_opening_bytes (items_bytes l)) l
    unfolding field_bytes
    choice_inside Display l a b c h = list_at_lem (list_place s 0) _ l h.0 refl
    choice_inside Text l a b c h = list_at_lem (list_place s 1) _ l h.1 (omega (arith, length_at (list_place s 0) (list a) h.0))
    choice_inside Script l a b c h =
        list_at_lem (list_place s 2) _ l h.2
        (omega (arith, length_at (list_place s 0) (list a) h.0, length_at (list_place s 1) (list b) h.1))
    choice_inside Scriptscript l a b c h =
        list_at_lem (list_place s 3) _ l h.3
        (omega (
          arith,
          length_at (list_place s 0) (list a) h.0,
          length_at (list_place s 1) (list b) h.1,
          length_at (list_place s 2) (list c) h.2,
        ))

  -- ---- an item of a list

  some_bytes : (s : List ℕ) (i : Item) (r : Items) → read levels s ≡ good (cons i r) → 0 < length s
  some_bytes s i r e = go (length s) refl
    where
      go : (n : ℕ) → length s ≡ n → 0 < length s
      go zero z =
          let nothing = read_none long_format levels s z in
          let y : ◌≡◌ {A = ℕ} 0 1 = cc in
          absurd (omega arith)
      go (suc n) z = omega arith

  -- the first item takes as many bytes as it is written in
  first_item : (s : List ℕ) (i : Item) (r : Items) → read levels s ≡ good (cons i r) →
      Stands s i × (read levels (drop (item_bytes i) s) ≡ good r)
  unfolding items_bytes
  first_item s i r e =
      let g = list_good levels s (cons i r) (some_bytes s i r e) e in
      let size = item_size s (opening_of s) in
      let is = g.is in
      let first : g.first ≡ i = cc in
      let rest : g.others ≡ r = cc in
      let all : item_bytes i + items_bytes r ≡ length s = written levels s (cons i r) e in
      let others : read levels (drop size s) ≡ good r = g.others_are ∙ ap good rest in
      let long : size ≡ item_bytes i =
      omega (arith, size_fits_lem s, length-drop size s, written levels (drop size s) r others)
      in (
        subst (Stands s) first (stands s (opening_of s) g.first g.first_is),
        ap (λ (k : ℕ). read levels (drop k s)) (sym long) ∙ others,
      )

  items_passed : (before r : Items) (s : List ℕ) → read levels s ≡ good (join before r) →
      read levels (drop (items_bytes before) s) ≡ good r
  unfolding items_bytes
  items_passed nil r s e = e
  items_passed (cons i b) r s e =
      ap (read levels) (sym (drop-drop (items_bytes b) (item_bytes i) s))
      ∙ items_passed b r (drop (item_bytes i) s) (first_item s i (join b r) e).1

  -- an item at a spot, with what stands behind it in its own list
  spot_reads : (u : Style) (spot : Spot) (i : Item) (s : List ℕ) → read levels s ≡ good (put u spot i) →
      (after : Items) × ReadAt s (spot_place u spot i) (cons i after)
  spot_reads u (among before after) i s e = (
    after,
    record {
      bytes = drop (items_bytes before) s;
      part = part_behind s (items_bytes before);
      reads = items_passed before (cons i after) s e;
    },
  )
  spot_reads u (within before a b c spot after) i s e =
      let t = style_after u before in
      let l = put t spot i in
      let q = drop (items_bytes before) s in
      let place = taken_place t.level a b c + list_opening_bytes (items_bytes l) in
      let first = (first_item q (choice_with t.level l a b c) after (items_passed before _ s e)).0 in
      let inner = read_within s q (items_bytes before) place l (part_behind s (items_bytes before)) (choice_inside q t.level l a b c first) in
      let item = spot_reads t spot i inner.bytes inner.reads in
      (item.0, read_within s inner.bytes (items_bytes before + place) (spot_place t spot i) (cons i item.0) inner.part item.1)

  -- ---- a list at a path

  step_reads : (u : Style) (t : Step) (s : List ℕ) (l : Items) → read levels s ≡ good (list_with u t l) →
      ReadAt s (step_place u t l) l
  step_reads u t s l e =
      let item = spot_reads u t.spot (holder t l) s e in
      let q = item.1.bytes in
      let first = (first_item q (holder t l) item.0 item.1.reads).0 in
      read_within s q (spot_place u t.spot (holder t l)) _ l item.1.part (item_inside q t.kind t.arm l first)

  path_reads : (formula : List ℕ) (u : Style) (p : Path) (l : Items) → read levels formula ≡ good (fill u p l) →
      ReadAt formula (place_of u p l) l
  path_reads formula u whole l e = record { bytes = formula; part = part_behind formula 0; reads = e }
  path_reads formula u (into p t) l e =
      let v = style_at u p in
      let around = list_with v t l in
      let outer = path_reads formula u p around e in
      read_within formula outer.bytes (place_of u p around) (step_place v t l) l outer.part
      (step_reads v t outer.bytes l outer.reads)

-- ---- a formula

pub field_reads : (formula : List ℕ) (s : Style) (p : Path) (l : Items) → read_formula formula ≡ good (fill s p l) →
    read_formula (field_part s p l formula) ≡ good l
field_reads formula s p l e =
    let levels = depth_limit - 1 in
    let r = reads_so long_format formula (fill s p l) e in
    let h = path_reads levels formula s p l r.1 in
    let rest = drop (place_of s p l) formula in
    let same : field_part s p l formula ≡ h.bytes =
    ap (λ (k : ℕ). take k rest) (written levels h.bytes l h.reads) ∙ sym h.part
    in
    let short : length (field_part s p l formula) ≤ formula_limit =
    omega (arith, r.0, length-take (items_bytes l) rest, length-drop (place_of s p l) formula)
    in
    so_reads long_format (field_part s p l formula) l short (ap (read levels) same ∙ h.reads)
