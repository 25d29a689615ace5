-- Demand 3: a list field stands in the whole as it stands alone. It is shown from bytes, for every style, table, client's table and formula
-- that setting accepts with room enough, and for every list field of what is set, at any depth: by the place of its kind byte
-- (`demand_3_at`, with `ListFieldAt` of `ListFields`), and by a path (`demand_3`): the list l at `into p t`, which is in the list at p,
-- at a spot of it, in one field of the item there. An item in the list that a choice takes is set too; the choice's lists themselves are
-- no list fields.
-- A formula has no neighbours, and a list field alone has those that its list sees in the whole: the list of a fence an Open before its
-- first atom and a Close behind its last (change request 4), any other list none (`step_sides_lem` of `ListFields`). So alone is
-- between the field's sides.
--     field_part, field_style_number, field_sides     the field's bytes, in the middle of the formula, the style that the rules give it
--                  from the style current at its item, and the sides that its item gives it
--     Alone        1: with those bytes as the formula, in that style and between those sides, measuring accepts, and setting with room
--                  enough
--     InPlace      2: the buffer of the whole has nodes before, the field's nodes as alone but for one distance, nodes after;
--                  of each of the field's nodes only the bytes of x and y change (`OnlyPlaceMoved` of `MovedBytes`)
--     run          the field's nodes are those that its items give
--     SizeUsed     3: the rules take the field for a box of the size measured alone, to which the space before a Close belongs
--     FieldAsAlone 1 to 3, and 4: nodes before, distance and nodes after are the same for any other formula that reads as
--                  this one but for that field's items, and has there a list of the same size
-- It comes of the trees (`FieldInPlace` and `FieldAlone` of crate setting) and of the reading (`FieldBytes`, `ListFields`).
-- Assumes nothing.
use Rattle.std.specs.Prelude.{◌≡◌, refl, Bool, true, false, List, ◌++◌, ℕ, ◌+◌, ◌*◌, ◌≤◌, ◌<◌, length, take, drop}
use Rattle.std.proofs.Common.{sym, ◌∙◌, append_assoc, arith, length-append}
use Rattle.std.proofs.Math.Path.{ap}
use Rattle.std.proofs.Math.Option.{some}
use Rattle.font.specs.Font.{Font, font_with}
use Rattle.formula.specs.Format.{long_format}
use Rattle.formula.specs.Tree.{Items, list, list_opening_bytes}
use Rattle.formula.specs.Reading.{good}
use Rattle.formula.specs.Places.{tree_of}
use Rattle.formula.specs.PlacesLaws.{readable_of, tree_is, items_bytes_lem}
use Rattle.formula.specs.FormatLaws.{reads_so}
use Rattle.boxes.specs.declared.styles.Level.{Level}
use Rattle.boxes.specs.declared.styles.Level.TheVariants.{Display, Text, Script, Scriptscript}
use Rattle.boxes.specs.declared.styles.Style.{Style}
use Rattle.boxes.specs.Styles.{style_of}
use Rattle.spacing.specs.Classes.{Neighbour, class_of}
use Rattle.boxes.specs.Boxes.{Size, box}
use Rattle.nodes.specs.Nodes.{Node, bytes_of, bytes_in_node}
use Rattle.nodes.specs.NodeLaws.{length_moved, bytes_append}
use Rattle.setting.specs.Setting.{Box, Line, Sides, no_sides, sides_of, placed, set_item, set_field, set_list, moved_by}
use Rattle.setting.specs.Frames.{Frame, framed}
use Rattle.setting.specs.Paths.{field_style, field_manner, Step, holder, item_style, step_style, step_sides, Path, into, fill, style_at, sides_at, place_of}
use Rattle.setting.specs.FieldInPlace.{sized, item_around, frame}
use Rattle.setting.proofs.FieldInPlace.{size_used, field_in_place}
use Rattle.setting.proofs.FieldAlone.{missing_alone, fits_alone}
use Rattle.answers.specs.Lent.{Lent}
use Rattle.answers.specs.Answers.{Answered, accepted_number, accepted, measured, measured_between, setting, setting_between, buffer_after, buffer_between, result_of, result_between, boxed}
use Rattle.answers.proofs.AnswersLaws.{measured_boxed, set_boxed, buffer_boxed}
use Rattle.promises.specs.Accepting.{Accepted, accepted_reads, Passed, passed, boxed_of}
use Rattle.promises.proofs.MovedBytes.{OnlyPlaceMoved, node_at, nodes_passed, moved_as, moved_at}
use Rattle.promises.specs.FieldBytes.{field_part, field_reads}
use Rattle.promises.specs.ListFields.{ListFieldAt}
use Rattle.promises.proofs.ListFields.{reached}

-- ---- the number of a style

abbrev pub number_by : Level → Bool → ℕ
number_by Display false = 0
number_by Display true = 1
number_by Text false = 2
number_by Text true = 3
number_by Script false = 4
number_by Script true = 5
number_by Scriptscript false = 6
number_by Scriptscript true = 7

abbrev pub number_of : Style → ℕ
number_of s = number_by s.level s.cramped

pub number_of_style : (s : Style) → style_of (number_of s) ≡ some s
unfolding style_of
number_of_style s = go s.level s.cramped
  where
    go : (level : Level) (cramped : Bool) → style_of (number_by level cramped) ≡ some (record { level = level; cramped = cramped })
    go Display false = refl
    go Display true = refl
    go Text false = refl
    go Text true = refl
    go Script false = refl
    go Script true = refl
    go Scriptscript false = refl
    go Scriptscript true = refl

-- ---- what is shown

-- setting gives measuring's answer wherever the counted nodes have room
pub record Alone (sides : Sides) (style : ℕ) (table client : List ℕ) (lent : Lent) (field : List ℕ) : Type 0 where
  pub measured_alone : (measured_between sides style table client lent field).number ≡ accepted_number
  pub set_alone : (room : ℕ) → bytes_in_node * (measured_between sides style table client lent field).count ≤ room →
      setting_between sides style table client lent field room ≡ measured_between sides style table client lent field

-- the same nodes, in the buffer of the field alone and, moved, in the buffer of the whole
pub record InPlace (style : ℕ) (table client : List ℕ) (lent : Lent) (formula : List ℕ) (field_sides : Sides) (field_style : ℕ) (field : List ℕ) (f : Frame)
    (nodes : List Node) : Type 0 where
  pub buffer_alone : (buffer : List ℕ) →
      let bytes = bytes_in_node * (measured_between field_sides field_style table client lent field).count in
      bytes ≤ length buffer → buffer_between field_sides field_style table client lent field buffer ≡ bytes_of nodes ++ drop bytes buffer
  pub buffer_of_whole : (buffer : List ℕ) →
      let bytes = bytes_in_node * (measured style table client lent formula).count in
      bytes ≤ length buffer →
      buffer_after style table client lent formula buffer
      ≡ bytes_of f.before ++ (bytes_of (moved_by f.distance nodes) ++ (bytes_of f.after ++ drop bytes buffer))
  pub count_alone : (measured_between field_sides field_style table client lent field).count ≡ length nodes
  pub count_of_whole : (measured style table client lent formula).count ≡ length f.before + (length nodes + length f.after)
  pub only_places_moved : (own buffer : List ℕ) (k : ℕ) →
      let count = (measured_between field_sides field_style table client lent field).count in
      bytes_in_node * count ≤ length own →
      bytes_in_node * (measured style table client lent formula).count ≤ length buffer →
      k < count →
      OnlyPlaceMoved f.distance (node_at k (buffer_between field_sides field_style table client lent field own))
      (node_at (length f.before + k) (buffer_after style table client lent formula buffer))

-- the field's shape, in a list in the style s, in the manner that its item gives it, and the item that holds it: in a line of the style
-- current at it, it is set from that shape and the other two
pub record SizeUsed (F : Font) (s : Style) (t : Step) (l : Items) (size : Size) : Type 0 where
  pub shape : (set_field F (step_style s t) (field_manner t.kind t.arm (item_style s t)) (list l)).shape ≡ box size
  pub holder_arranged : (right : Neighbour) (line : Line) → line.style ≡ item_style s t →
      set_item F right line (holder t l)
      ≡ placed F right line (class_of t.kind)
      (item_around F (item_style s t) t.kind t.arm (sized size (set_list F (step_sides s t) (step_style s t) l).nodes))

abbrev pub field_style_number : Style → Path → Step → ℕ
field_style_number s p t = number_of (style_at s (into p t))

abbrev pub field_sides : Style → Path → Step → Sides
field_sides s p t = sides_at s (into p t)

-- what measuring answers of the field alone
abbrev pub field_measured : List ℕ → List ℕ → Lent → List ℕ → Style → Path → Step → Items → Answered
field_measured table client lent formula s p t l =
    measured_between (field_sides s p t) (field_style_number s p t) table client lent (field_part s (into p t) l formula)

-- what stands around the field's nodes, by the path and the size that the field measures alone
abbrev pub around : List ℕ → List ℕ → Style → Path → Step → Size → Frame
around table client s p t size = frame (font_with table client) s (into p t) size

-- the nodes that the list's items give, with all they hold
abbrev pub run : List ℕ → List ℕ → Style → Path → Step → Items → List Node
run table client s p t l = (set_list (font_with table client) (field_sides s p t) (style_at s (into p t)) l).nodes

-- 2, for a field of this size
abbrev pub StandsIn : ℕ → List ℕ → List ℕ → Lent → List ℕ → Style → Path → Step → Items → Size → Type 0
StandsIn style table client lent formula s p t l size =
    InPlace style table client lent formula (field_sides s p t) (field_style_number s p t) (field_part s (into p t) l formula)
    (around table client s p t size) (run table client s p t l)

pub record FieldAsAlone (style : ℕ) (table client : List ℕ) (lent : Lent) (formula : List ℕ) (s : Style) (p : Path) (t : Step) (l : Items) : Type 0 where
  pub alone : Alone (field_sides s p t) (field_style_number s p t) table client lent (field_part s (into p t) l formula)
  pub in_place : StandsIn style table client lent formula s p t l (field_measured table client lent formula s p t l).size
  pub size_used : SizeUsed (font_with table client) (style_at s p) t l (field_measured table client lent formula s p t l).size
  pub same_outside : (other : List ℕ) (m : Items) →
      let size = (field_measured table client lent formula s p t l).size in
      Accepted style table client lent other s (fill s (into p t) m) → (field_measured table client lent other s p t m).size ≡ size →
      StandsIn style table client lent other s p t m size

-- ---- the proof

-- from the boxes of the whole and of the field
in_place_by : (style : ℕ) (table client : List ℕ) (lent : Lent) (formula : List ℕ) (sides : Sides) (n : ℕ) (field : List ℕ) (w b : Box) (f : Frame) →
    result_of style table client lent formula ≡ boxed w → result_between sides n table client lent field ≡ boxed b → w.nodes ≡ framed f b.nodes →
    InPlace style table client lent formula sides n field f b.nodes
in_place_by style table client lent formula sides n field w b f whole_is alone-is e =
    record {
      buffer_alone = buffer_boxed sides n table client lent field b alone-is;
      buffer_of_whole = whole_buffer;
      count_alone = count_alone;
      count_of_whole =
          ap (λ (a : Answered). a.count) (measured_boxed no_sides style table client lent formula w whole_is)
          ∙ ap length e
          ∙ simp (length-append, length_moved);
      only_places_moved = λ own buffer k enough-alone enough within.
          moved_as f.distance
          (ap (node_at k) (buffer_boxed sides n table client lent field b alone-is own enough-alone))
          (ap (node_at (length f.before + k)) (whole_buffer buffer enough) ∙ nodes_passed f.before k _)
          (moved_at f.distance b.nodes k _ _ (omega (arith, count_alone)));
    }
  where
    count_alone : (measured_between sides n table client lent field).count ≡ length b.nodes
    count_alone = ap (λ (a : Answered). a.count) (measured_boxed sides n table client lent field b alone-is)

    whole_buffer : (buffer : List ℕ) →
        let bytes = bytes_in_node * (measured style table client lent formula).count in
        bytes ≤ length buffer →
        buffer_after style table client lent formula buffer
        ≡ bytes_of f.before ++ (bytes_of (moved_by f.distance b.nodes) ++ (bytes_of f.after ++ drop bytes buffer))
    whole_buffer buffer enough =
        let rest = drop (bytes_in_node * (measured style table client lent formula).count) buffer in
        buffer_boxed no_sides style table client lent formula w whole_is buffer enough
        ∙ ap (λ (ns : List Node). bytes_of ns ++ rest) e
        ∙ simp (bytes_append, append_assoc)

module _ (style : ℕ) (table client : List ℕ) (lent : Lent) (formula : List ℕ) (s : Style) (p : Path) (t : Step) (l : Items) where
  abbrev field_box : Box
  field_box = set_list (font_with table client) (field_sides s p t) (style_at s (into p t)) l

  module _ (h : Accepted style table client lent formula s (fill s (into p t) l)) where
    field_passed : Passed (field_sides s p t) table client lent (style_at s (into p t)) l
    field_passed =
        let w = passed h in
        record {
          table_good = w.table_good;
          client_good = w.client_good;
          words_enough = w.words_enough;
          none_missing = missing_alone (font_with table client) s (into p t) l w.none_missing;
          fits = fits_alone (font_with table client) s (into p t) l w.fits;
        }

    whole_boxed : result_of style table client lent formula ≡ boxed (set_list (font_with table client) no_sides s (fill s (into p t) l))
    whole_boxed = boxed_of no_sides style table client lent formula s (fill s (into p t) l) h.style_is h.reads (passed h)

    field_boxed : result_between (field_sides s p t) (field_style_number s p t) table client lent (field_part s (into p t) l formula) ≡ boxed field_box
    field_boxed =
        boxed_of (field_sides s p t) (field_style_number s p t) table client lent (field_part s (into p t) l formula) (style_at s (into p t)) l
        (number_of_style (style_at s (into p t))) (field_reads formula s (into p t) l h.reads) field_passed

    field_measured_lem : field_measured table client lent formula s p t l ≡ accepted field_box
    field_measured_lem = measured_boxed (field_sides s p t) (field_style_number s p t) table client lent (field_part s (into p t) l formula) _ field_boxed

    field_alone : Alone (field_sides s p t) (field_style_number s p t) table client lent (field_part s (into p t) l formula)
    field_alone =
        record {
          measured_alone = ap (λ (a : Answered). a.number) field_measured_lem;
          set_alone = set_boxed (field_sides s p t) (field_style_number s p t) table client lent (field_part s (into p t) l formula) _ field_boxed;
        }

    -- for any size that is the one measured
    field_stands : (size : Size) → (field_measured table client lent formula s p t l).size ≡ size → StandsIn style table client lent formula s p t l size
    field_stands size e =
        let F = font_with table client in
        let same : field_box.size ≡ size = ap (λ (a : Answered). a.size) (sym field_measured_lem) ∙ e in
        in_place_by style table client lent formula (field_sides s p t) (field_style_number s p t) (field_part s (into p t) l formula) _ field_box
        (frame F s (into p t) size) whole_boxed field_boxed
        (ap (λ (w : Box). w.nodes) (field_in_place F s (into p t) l)
        ∙ ap (λ (z : Size). framed (frame F s (into p t) z) field_box.nodes) same)

    field_used : SizeUsed (font_with table client) (style_at s p) t l (field_measured table client lent formula s p t l).size
    unfolding set_field set_list
    field_used =
        let F = font_with table client in
        let kind = t.kind in
        let g = t.arm in
        record {
          shape = ap (λ (a : Answered). box a.size) (sym field_measured_lem);
          holder_arranged = λ right line e.
              rw field_measured_lem (size_used F right line kind g l
              ∙ ap (λ (u : Style). placed F right line (class_of kind)
              (item_around F u kind g (set_list F (sides_of (field_manner kind g u)) (field_style kind g u) l))) e);
        }

pub demand_3 : (style : ℕ) (table client : List ℕ) (lent : Lent) (formula : List ℕ) (s : Style) (p : Path) (t : Step) (l : Items) →
    Accepted style table client lent formula s (fill s (into p t) l) → FieldAsAlone style table client lent formula s p t l
demand_3 style table client lent formula s p t l h =
    record {
      alone = field_alone style table client lent formula s p t l h;
      in_place = field_stands style table client lent formula s p t l h _ refl;
      size_used = field_used style table client lent formula s p t l h;
      same_outside = λ other m k e. field_stands style table client lent other s p t m k _ e;
    }

-- ---- by the place of a field's kind byte

-- what `FieldAsAlone` says, of the list field that has its kind byte at this place of the formula, the style v and these sides by the
-- rules, and holds these bytes; s is the formula's style
pub record ListFieldAsAlone (style : ℕ) (table client : List ℕ) (lent : Lent) (formula : List ℕ) (s : Style) (place : ℕ) (v : Style) (sides : Sides) (field : List ℕ) :
    Type 0 where
  pub p : Path
  pub t : Step
  pub reads : Accepted style table client lent formula s (fill s (into p t) (tree_of field))
  pub place_is : place_of s (into p t) (tree_of field) ≡ place + list_opening_bytes (length field)
  pub style_is : style_at s (into p t) ≡ v
  pub sides_are : sides_at s (into p t) ≡ sides
  pub part_is : field_part s (into p t) (tree_of field) formula ≡ field
  pub as_alone : FieldAsAlone style table client lent formula s p t (tree_of field)

pub demand_3_at : (style : ℕ) (table client : List ℕ) (lent : Lent) (formula : List ℕ) (room : ℕ) → (setting style table client lent formula room).number ≡ accepted_number →
    (s : Style) → style_of style ≡ some s → (place : ℕ) (v : Style) (sides : Sides) (field : List ℕ) →
    ListFieldAt s formula place v sides field → ListFieldAsAlone style table client lent formula s place v sides field
demand_3_at style table client lent formula room e s is place v sides field f =
    let a = accepted_reads style table client lent formula room e in
    let h = a.2 in
    let read = (reads_so long_format formula a.1 h.reads).1 in
    let w = reached s formula (readable_of formula _ a.1 read) f in
    let tree : a.1 ≡ fill s (into w.p w.t) (tree_of field) = sym (tree_is formula _ a.1 read) ∙ w.tree in
    let reads : Accepted style table client lent formula s (fill s (into w.p w.t) (tree_of field)) =
    record { style_is = is; reads = h.reads ∙ ap good tree; room = room; is_accepted = e }
    in
    record {
      p = w.p;
      t = w.t;
      reads = reads;
      place_is = w.there;
      style_is = w.style;
      sides_are = w.between;
      part_is = ap (λ (n : ℕ). take n (drop (place_of s (into w.p w.t) (tree_of field)) formula)) (items_bytes_lem field w.readable) ∙ sym w.part;
      as_alone = demand_3 style table client lent formula s w.p w.t (tree_of field) reads;
    }
