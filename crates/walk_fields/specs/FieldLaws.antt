-- A field of an item by what stands at its head, in the terms of the code: its slices, and where the field ends.
--     field_given                   what the setter of a field is given
--     Head, head_at_lem, head_short     the head that was found, and where the field ends
--     head_empty, head_symbol       no symbol and no list; a symbol
--     list_given                    what the setter of a list is given
--     list_goes, head_list          a list, by what its setter came to
-- Assumes nothing.
use Rattle.std.specs.Prelude.{◌≡◌, refl, true, List, Result, Ok, Err, ℕ, ◌+◌, ◌-◌, ◌≤◌, ◌<◌, length, take, drop}
use Rattle.std.proofs.Common.{sym, subst, ap, ◌∙◌, arith, length-drop}
use Rattle.font.specs.Font.{Font}
use Rattle.formula.specs.declared.FieldHead.{FieldHead}
use Rattle.formula.specs.declared.FieldHead.TheVariants.{NoField, Empty, Symbol, Sublist, CutSublist}
use Rattle.formula.specs.Tree.{Items, Field, empty, symbol, list, list_opening_bytes, items_bytes}
use Rattle.formula.specs.Heads.{field_head, is_empty}
use Rattle.formula.specs.Places.{tree_of, head_bytes, head_at, contents, field_of, GoodField, GoodFieldAt}
use Rattle.formula.specs.Slices.{tail_part, field_part_lem}
use Rattle.formula.specs.HeadLaws.{head_fits, list_opening_lem, contents_shorter}
use Rattle.formula.specs.PlacesLaws.{items_bytes_lem}
use Rattle.formula.specs.Format.{formula_limit}
use Rattle.boxes.specs.declared.styles.Style.{Style}
use Rattle.boxes.specs.Parameters.{Parameters}
use Rattle.spacing.specs.Classes.{Neighbour}
use Rattle.arrange.specs.declared.Manner.{Manner}
use Rattle.setting.specs.Setting.{Sides, sides_of}
use Rattle.walk_fields.specs.declared.fields.FieldBox as fields
use Rattle.walk_fields.specs.declared.fields.Missing.{Missing}
use Rattle.walk_fields.specs.declared.lines.Line as lines
use Rattle.walk_fields.specs.Bounds.{LineWithin}
use Rattle.walk_fields.specs.Fields.{EmptyField, FieldDone, ClosedField, ListGoes, ListField}
use Rattle.walk_fields.specs.Lists.{ListGiven, FieldGiven, HeadDone, ItemsGiven, ItemsDone, ListDone}
use Rattle.walk_fields.specs.Lines.{StartLine, ClosedLine}
use Rattle.walk_fields.specs.ListLaws.{start_within, list_whole_of, list_lacks_of, line_more}
use Rattle.walk_fields.specs.FieldBoxLaws.{field_empty, list_whole, list_missing}

-- what the setter of a field is given, by what that of its item is
pub field_given : {s : List ℕ} {at place : ℕ} → ListGiven s → at ≡ place → GoodFieldAt s place →
    place ≤ length s → FieldGiven s at
field_given {s = s} given is good inside =
    record {
      good = subst (GoodFieldAt s) (sym is) good;
      inside = omega (arith, is, inside);
      short = given.short;
    }

-- the field at a place has the head h and goes up to `end`
pub record Head (s : List ℕ) (at : ℕ) (h : FieldHead) (end : ℕ) : Type 0 where
  pub is : head_at s at ≡ h
  pub goes : end ≡ at + head_bytes h
  pub inside : end ≤ length s
  pub good : GoodField (drop at s) h

-- as the code finds it: r in the rest of the item, and its bytes n
pub head_at_lem : {s : List ℕ} {at n : ℕ} {r h : FieldHead} → FieldGiven s at →
    r ≡ field_head (take (length s - at) (drop at s)) → n ≡ head_bytes r → r ≡ h → Head s at h (at + n)
head_at_lem {s = s} {at} {n} {r} {h} given read size is =
    let here : head_at s at ≡ h = sym (read ∙ ap field_head (tail_part s at)) ∙ is in
    let low = given.inside in
    let bytes : n ≡ head_bytes h = size ∙ ap head_bytes is in
    record {
      is = here;
      goes = ap (λ (k : ℕ). at + k) bytes;
      inside = omega (arith, head_fits (drop at s) h here, length-drop at s);
      good = subst (GoodField (drop at s)) here given.good;
    }

-- as the code's test tells it
pub empty_is : (h : FieldHead) → is_empty h ≡ true → Empty ≡ h
empty_is NoField e = let z : ◌≡◌ {A = ℕ} 0 1 = cc in absurd (omega arith)
empty_is Empty e = refl
empty_is (Symbol family code) e = let z : ◌≡◌ {A = ℕ} 0 1 = cc in absurd (omega arith)
empty_is (Sublist opening n) e = let z : ◌≡◌ {A = ℕ} 0 1 = cc in absurd (omega arith)
empty_is CutSublist e = let z : ◌≡◌ {A = ℕ} 0 1 = cc in absurd (omega arith)

-- a head has so few bytes that they can be added up
pub head_short : {s : List ℕ} {at : ℕ} {r : FieldHead} → FieldGiven s at →
    r ≡ field_head (take (length s - at) (drop at s)) → at + head_bytes r ≤ formula_limit
head_short {s = s} {at} {r} given read =
    let o = head_at_lem given read refl refl in
    let short = given.short in
    omega (arith, o.inside)

module _ (F : Font) (st : Style) (manner : Manner) (b b' : List ℕ) {s : List ℕ} {at end : ℕ} where
  head_done : {h : FieldHead} → Head s at h end → (r : Result fields.FieldBox Missing) →
      FieldDone F st manner (field_of (drop at s) h) at end b r b' → HeadDone F st manner s at b r b'
  head_done {h} o r d =
      subst (λ (h : FieldHead). FieldDone F st manner (field_of (drop at s) h) at (at + head_bytes h) b r b') (sym o.is)
      (subst (λ (e : ℕ). FieldDone F st manner (field_of (drop at s) h) at e b r b') o.goes d)

  pub head_symbol : {family code : ℕ} → Head s at (Symbol family code) end → (r : Result fields.FieldBox Missing) →
      FieldDone F st manner (symbol family code) at end b r b' → HeadDone F st manner s at b r b'
  head_symbol o r d = head_done o r d

  -- the list of n bytes behind the opening, whose setter comes to l between the sides of its manner
  module _ {opening n : ℕ} (o : Head s at (Sublist opening n) end) (sides : Sides) (between : sides ≡ sides_of manner)
      {start : lines.Line} (empty-line : StartLine sides.left st start) (l : Result lines.Line Missing)
      (d : let part = take (end - (at + opening)) (drop (at + opening) s) in
      ItemsDone F sides.right (tree_of part) (length part) start b l b') where
    inner : take (end - (at + opening)) (drop (at + opening) s) ≡ contents opening n (drop at s)
    inner =
        let e : end ≡ at + opening + n = omega (arith, o.goes) in
        rw e (field_part_lem s at opening n)

    abbrev tree : Items
    tree = tree_of (contents opening n (drop at s))

    opens : list_opening_bytes (items_bytes tree) ≡ opening
    opens =
        let long = items_bytes_lem (contents opening n (drop at s)) o.good ∙ (contents_shorter (drop at s) opening n o.is).0 in
        ap list_opening_bytes long ∙ sym (list_opening_lem (drop at s) opening n o.is)

    goes_on_lem : end ≡ at + list_opening_bytes (items_bytes tree) + n
    goes_on_lem = omega (arith, o.goes, opens)

    -- what it came to, of the bytes of the list
    items_done : (r : Result lines.Line Missing) → l ≡ r → ItemsDone F sides.right tree n start b r b'
    items_done r is =
        let Done : List ℕ → ℕ → Result lines.Line Missing → Type 0 = λ p k r. ItemsDone F sides.right (tree_of p) k start b r b' in
        let part = contents opening n (drop at s) in
        subst (Done part n) is
        (subst (λ (k : ℕ). Done part k l) (contents_shorter (drop at s) opening n o.is).0
        (subst (λ (p : List ℕ). Done p (length p) l) inner d))

    -- a line of its own bytes alone
    head_line : {line : lines.Line} → l ≡ Ok line → LineWithin (0 + n) line
    head_line {line} is = (items_done (Ok line) is).1.grows 0 (start_within 0 empty-line)

    head_whole : {P : Parameters} {line : lines.Line} {c : fields.FieldBox} → P ≡ F.parameter → l ≡ Ok line →
        ClosedField P st sides.right end line c → HeadDone F st manner s at b (Ok c) b'
    head_whole {P} {line} {c} params is p =
        let closed = p.closed in
        let end_is = subst (λ (P : Parameters). ClosedLine P st sides.right line closed) params p.closed_is in
        let w = subst (λ (sides : Sides). ListDone F sides st tree n b (Ok closed) b') between
        (list_whole_of F sides tree n b b' empty-line line closed (items_done (Ok line) is) end_is) in
        head_done o (Ok c) (list_whole F st manner at end b tree n goes_on_lem b' closed c w p.part_is)

    head_missing : {m : Missing} → l ≡ Err m →
        HeadDone F st manner s at b (Err (record { place = at + opening + m.place })) b' × (at + opening + m.place ≤ length s)
    head_missing {m} is =
        let w = list_lacks_of F sides tree n b b' empty-line m (items_done (Err m) is) in
        let e : at + list_opening_bytes (items_bytes tree) ≡ at + opening = omega (arith, opens) in
        let low = w.1 in
        let in_List = o.inside in (
          head_done o (Err (record { place = at + opening + m.place }))
              (subst (λ (k : ℕ). FieldDone F st manner (list tree) at end b (Err (record { place = k + m.place })) b') e
              (list_missing F st manner at end b tree n goes_on_lem b' m.place w)),
          omega (arith, o.goes),
        )

    -- the field from it
    pub list_goes : length s ≤ formula_limit → ListGoes (at + opening) l
    list_goes short = go l refl
      where
        go : (r : Result lines.Line Missing) → l ≡ r → ListGoes (at + opening) r
        go (Ok line) is = line_more (omega (arith, o.goes, o.inside)) (head_line is)
        go (Err m) is = omega (arith, (head_missing is).1)

    pub head_list : {P : Parameters} → P ≡ F.parameter → (r : Result fields.FieldBox Missing) → ListField P st sides.right (at + opening) end l r →
        HeadDone F st manner s at b r b'
    head_list {P} params r d = go l refl r d
      where
        go : (came : Result lines.Line Missing) → l ≡ came → (r : Result fields.FieldBox Missing) → ListField P st sides.right (at + opening) end came r →
            HeadDone F st manner s at b r b'
        go (Ok line) is (Ok c) p = head_whole params is p
        go (Ok line) is (Err there) p = absurd p
        go (Err m) is (Ok c) e = absurd e
        go (Err m) is (Err there) e =
            subst (λ (k : ℕ). HeadDone F st manner s at b (Err (record { place = k })) b') (sym e) (head_missing is).0

module _ (F : Font) (st : Style) (manner : Manner) (b : List ℕ) {s : List ℕ} {at end : ℕ} where
  pub head_empty : {h : FieldHead} {c : fields.FieldBox} → Head s at h end → field_of (drop at s) h ≡ empty → EmptyField end c →
      HeadDone F st manner s at b (Ok c) b
  head_empty {h} {c} o none_there e =
      head_done F st manner b b o (Ok c)
      (subst (λ (f : Field). FieldDone F st manner f at end b (Ok c) b) (sym none_there)
      (field_empty F st manner at end b c (omega (arith, o.goes)) e))

-- what the setter of a list is given, and that the list is shorter than what holds the item
pub list_given : {s : List ℕ} {at end opening n : ℕ} {left : Neighbour} {st : Style} {start : lines.Line} → FieldGiven s at →
    Head s at (Sublist opening n) end → StartLine left st start →
    let part = take (end - (at + opening)) (drop (at + opening) s) in
    ItemsGiven part start × (length part < length s)
list_given {s = s} {at} {end} {opening} {n} given o empty-line =
    let shorter = contents_shorter (drop at s) opening n o.is in
    let rest = length-drop at s in
    let short = given.short in
    let e : end ≡ at + opening + n = omega (arith, o.goes) in
    let inner : take (end - (at + opening)) (drop (at + opening) s) ≡ contents opening n (drop at s) =
    rw e (field_part_lem s at opening n) in
    rw inner (
      record {
        list =
            record {
              readable = o.good;
              short = omega arith;
            };
        small = start_within (formula_limit - length (contents opening n (drop at s))) empty-line;
      },
      omega arith,
    )
