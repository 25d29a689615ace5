-- The setting cycle meets its contracts: `set_items` calls `set_stretch` and `set_onward`, that `set_choice` and `set_stretch`; `set_stretch`
-- calls `set_item`, that `set_noad`, that `set_second`, and that `set_third`; each of these three calls `set_field`, and that `set_given`;
-- `set_given` and `set_choice` call `set_items` on a shorter list.
-- Each goal follows by one law of `FieldLaws`, `AlongLaws`, `ChoiceLaws`, `NoadLaws` or `NoadDone`. The lemmas here say what several goals of
-- a member share: `chosen` and `past` of a choice, `own_before` and `own_behind` of an item's own nodes, and `three` of the third field, which
-- there may be or not.
-- Assumes nothing.
use Rattle.std.specs.Prelude.{Ok, Err}
use Rattle.std.proofs.lemmas.Result.{err_from_is_err_and}
use Rattle.std.proofs.Common.{◌≡◌, ℕ, ◌+◌, ◌<◌, List, length, refl, sym, ap, ap₂, ◌∙◌, arith}
use Rattle.font.specs.Font.{Font, font_in}
use Rattle.formula.specs.declared.Kind.{Kind}
use Rattle.formula.specs.declared.Opening.TheVariants.{NoItem, Choice}
use Rattle.formula.specs.Heads.{opening_of}
use Rattle.formula.specs.Places.{choice_lists}
use Rattle.formula.specs.Slices.{tail_part}
use Rattle.formula.specs.HeadLaws.{opening_fits, kern_small}
use Rattle.formula.specs.PlacesLaws.{step, noad_at_lem, Chosen, choice_at_lem}
use Rattle.boxes.specs.declared.styles.Style.{Style}
use Rattle.boxes.specs.Parameters.{Parameters}
use Rattle.delimiters.specs.declared.HasSigns.{HasSigns}
use Rattle.arrange.specs.Arrange.{own_counts}
use Rattle.spacing.specs.Classes.{Neighbour}
use Rattle.spacing.specs.Values.{neighbour_as}
use Rattle.delimiters.specs.Values.{signs_as}
use Rattle.setting.specs.Setting.{has_signs}
use Rattle.nodes.specs.Buffer.{room_for}
use Rattle.walk_looks.specs.PlaceLaws.{tail_given, right_alike}
use Rattle.walk_fields.specs.declared.lines.Line as lines
use Rattle.walk_fields.specs.FieldLaws.{head_at_lem, head_short, empty_is, head_empty, field_given, list_given, list_goes, head_list}
use Rattle.walk_fields.specs.ListLaws.{line_more}
use Rattle.walk_items.specs.Standing.{Two}
use Rattle.walk_items.specs.NoadLaws.{head_by, finished_by, first_lacks, second_lacks, third_lacks, Three, set_one, set_two, set_three, lacks_one, lacks_two, none_third, finish_given}
use Rattle.walk.specs.declared.lists.Stretch.{Stretch}
use Rattle.walk.specs.Walked.{OpenedGiven, ItemDone, Along}
use Rattle.walk.proofs.ChoiceLaws.{choice_lacks, choice_done}
use Rattle.walk.proofs.NoadDone.{noad_lacks, noad_done}
use Rattle.walk.proofs.AlongLaws.{kern_done, style_done, rest_given, item_lacks, item_along, along_start, along_next, along_stop, along_stretch, along_done}
use Rattle.walk.proofs.lists.+setting.Goals as goal
use Rattle.walk.proofs.lists.+setting.Goals.{set_third-Joined-has_third, set_third-then-has_third+in_ok-z, set_third-else-has_third}

-- ---- set_choice

chosen : {s : List ℕ} {l : lines.Line} → OpenedGiven s Choice l → Chosen s
chosen {s = s} given = choice_at_lem s given.opens given.items.list.readable

pub set_choice-slice_bounds-inside-end : goal.set_choice-slice_bounds-inside-end
set_choice-slice_bounds-inside-end t c =
    let span = c.taken_span-taken.ensures in
    omega (arith, span.ordered, span.inside, (chosen c.requires).places_in choice_lists)

pub set_choice-slice_bounds-beyond_choice-count : goal.set_choice-slice_bounds-beyond_choice-count
set_choice-slice_bounds-beyond_choice-count t c = omega (arith, c.list_place-end.ensures, (chosen c.requires).places_in choice_lists)

pub set_choice-slice_bounds-beyond_choice-start : goal.set_choice-slice_bounds-beyond_choice-start
set_choice-slice_bounds-beyond_choice-start t c = omega (arith, c.list_place-end.ensures, (chosen c.requires).places_in choice_lists)

pub set_choice-beyond_choice-right-requires : goal.set_choice-beyond_choice-right-requires
set_choice-beyond_choice-right-requires t c =
    let span = c.taken_span-taken.ensures in
    let short = c.requires.items.list.short in
    let rest = tail_given c.args.s.now _ c.list_place-end.ensures (chosen c.requires).rest short in
    (span.readable, omega (arith, span.shorter), rest.0, rest.1)

pub set_choice-returns-in-Ok : goal.set_choice-returns-in-Ok
set_choice-returns-in-Ok t c =
    choice_done _ _ _ _ _ c.requires.opens (chosen c.requires) c.taken_span-taken.ensures _ c.list_place-end.ensures
    c.beyond_choice-right.ensures c.in-Ok.ensures

pub set_choice-returns-in-Err : goal.set_choice-returns-in-Err
set_choice-returns-in-Err t c =
    rw c.behind.ensures (choice_lacks _ (neighbour_as c.args.beyond) c.args.line _ _ c.requires.opens (chosen c.requires) c.taken_span-taken.ensures c.in-Err.ensures).0

-- ---- set_field

pub set_field-returns-then-is_empty : goal.set_field-returns-then-is_empty
set_field-returns-then-is_empty t c =
    let is = empty_is _ (sym c.is_empty.ensures ∙ c.if-is_empty.true) in
    head_empty _ _ _ _ (head_at_lem c.requires is refl refl) refl c.empty_field.ensures

-- ---- set_given, by the head that is read

pub set_given-field_bytes-requires : goal.set_given-field_bytes-requires
set_given-field_bytes-requires t c = omega (arith, head_short c.requires c.field_head-head.ensures)

pub set_given-overflow_add-end : goal.set_given-overflow_add-end
set_given-overflow_add-end t c = omega (arith, head_short c.requires c.field_head-head.ensures, c.field_bytes.ensures)

pub set_given-overflow_add-first : goal.set_given-overflow_add-first
set_given-overflow_add-first t c =
    let head = head_at_lem c.requires c.field_head-head.ensures c.field_bytes.ensures c.in-Sublist.is in
    omega (arith, head.goes, head.inside, c.requires.short)

pub set_given-slice_bounds-set_items-end : goal.set_given-slice_bounds-set_items-end
set_given-slice_bounds-set_items-end t c =
    let head = head_at_lem c.requires c.field_head-head.ensures c.field_bytes.ensures c.in-Sublist.is in
    omega (arith, head.goes, head.inside, c.requires.short)

pub set_given-set_items-set-requires : goal.set_given-set_items-set-requires
set_given-set_items-set-requires t c =
    let head = head_at_lem c.requires c.field_head-head.ensures c.field_bytes.ensures c.in-Sublist.is in
    let given = list_given c.requires head c.start-line.ensures in
    (omega (arith, given.1), given.0)

pub set_given-list_field-requires : goal.set_given-list_field-requires
set_given-list_field-requires t c =
    let head = head_at_lem c.requires c.field_head-head.ensures c.field_bytes.ensures c.in-Sublist.is in
    list_goes _ _ c.args.manner _ _ head _ c.sides_of-sides.ensures c.start-line.ensures c.set_items-set.result c.set_items-set.ensures c.requires.short

pub set_given-returns-in-Empty : goal.set_given-returns-in-Empty
set_given-returns-in-Empty t c =
    let head = head_at_lem c.requires c.field_head-head.ensures c.field_bytes.ensures c.in-Empty.is in
    head_empty _ _ _ _ head refl c.empty_field-in-Empty.ensures

pub set_given-returns-in-Sublist : goal.set_given-returns-in-Sublist
set_given-returns-in-Sublist t c =
    let head = head_at_lem c.requires c.field_head-head.ensures c.field_bytes.ensures c.in-Sublist.is in
    head_list _ _ _ _ _ head _ c.sides_of-sides.ensures c.start-line.ensures c.set_items-set.result c.set_items-set.ensures
    c.parameters.ensures c.list_field.result c.list_field.ensures

-- ---- set_item, by what opens

pub set_item-kerned-requires : goal.set_item-kerned-requires
set_item-kerned-requires t c =
    let items = c.requires.0 in
    (line_more (omega arith) items.small, omega (arith, kern_small c.args.s.now _ (sym c.in-Kern.ensures)))

pub set_item-returns-in-NoItem : goal.set_item-returns-in-NoItem
set_item-returns-in-NoItem t c = absurd (step c.args.s.now NoItem (sym c.in-NoItem.ensures) c.requires.0.list.readable c.requires.1).item

pub set_item-returns-in-Kern : goal.set_item-returns-in-Kern
set_item-returns-in-Kern t c = kern_done _ _ _ _ _ _ (sym c.in-Kern.ensures) c.kerned.ensures

pub set_item-returns-in-Restyle : goal.set_item-returns-in-Restyle
set_item-returns-in-Restyle t c =
    let set = c.styled.ensures in
    style_done _ _ _ _ _ _ (sym c.in-Restyle.ensures)
    (record { left_is = set.left_is; style_is = set.style_is ∙ c.restyled.ensures; size_is = set.size_is; run_is = set.run_is })

-- ---- set_stretch: an item is set behind the line, lacks a symbol, or is a choice

pub set_stretch-loop-at-init : goal.set_stretch-loop-at-init
set_stretch-loop-at-init t c = along_start _ _ _ _ _ c.requires.list.readable

pub set_stretch-set_item-requires : goal.set_stretch-set_item-requires
set_stretch-set_item-requires t c =
    let given = rest_given c.requires c.loop-at.invariant in
    let more = c.loop-at-test.true in
    (omega (arith, given.1), (given.0, omega (arith, given.1)))

pub set_stretch-overflow_add-at : goal.set_stretch-overflow_add-at
set_stretch-overflow_add-at t c =
    let next = along_next _ _ c.loop-at.invariant c.room-j.ensures _ c.loop-at-test.true (rw c.in-Ok-Some.field-0-is at c.in-Ok-Some.ensures) in
    omega (arith, next.1.low, c.requires.list.short)

pub set_stretch-loop-at-smaller : goal.set_stretch-loop-at-smaller
set_stretch-loop-at-smaller t c =
    let next = along_next _ _ c.loop-at.invariant c.room-j.ensures _ c.loop-at-test.true (rw c.in-Ok-Some.field-0-is at c.in-Ok-Some.ensures) in
    omega (arith, next.0, c.loop-at-test.true)

pub set_stretch-loop-at-preserved : goal.set_stretch-loop-at-preserved
set_stretch-loop-at-preserved t c = (along_next _ _ c.loop-at.invariant c.room-j.ensures _ c.loop-at-test.true (rw c.in-Ok-Some.field-0-is at c.in-Ok-Some.ensures)).1

pub set_stretch-behind-requires : goal.set_stretch-behind-requires
set_stretch-behind-requires t c =
    let lacks = along_stop _ _ c.loop-at.invariant c.room-j.ensures _ c.loop-at-test.true c.in-Err.ensures in
    omega (arith, lacks.1, c.requires.list.short)

pub set_stretch-returns-in-Err : goal.set_stretch-returns-in-Err
set_stretch-returns-in-Err t c =
    rw c.behind.ensures (along_stop _ _ c.loop-at.invariant c.room-j.ensures _ c.loop-at-test.true c.in-Err.ensures)

-- ---- set_onward: a choice, and then a stretch

-- a list that opens with a choice is not empty
some_there : (s : List ℕ) → opening_of s ≡ Choice → 0 < length s
some_there s opens = omega (arith, opening_fits s Choice opens)

-- the choice is set
past : {s : List ℕ} {l : lines.Line} → OpenedGiven s Choice l → (F : Font) (beyond : Neighbour) (b v : List ℕ)
    {c : Stretch} → ItemDone F beyond s l b (Ok c) v → (0 < c.bytes) × Along F beyond s l b c.bytes c.line v
past {s = s} {l} given F beyond b v done = item_along F beyond s l b v given.items.list.readable (some_there s given.opens) done

pub set_onward-returns-in_err-taken : goal.set_onward-returns-in_err-taken
set_onward-returns-in_err-taken t c =
    let exit = err_from_is_err_and c.from_residual.result c.from_residual.ensures.1 in
    rw (exit.1, exit.2) (item_lacks _ (neighbour_as c.args.beyond) _ c.args.line _ _ c.requires.items.list.readable (some_there _ c.requires.opens) c.in_err-taken.ensures, tt)

pub set_onward-slice_bounds-set_stretch-count : goal.set_onward-slice_bounds-set_stretch-count
set_onward-slice_bounds-set_stretch-count t c = omega (arith, (past c.requires _ _ _ _ c.in_ok-taken.ensures).1.low)

pub set_onward-slice_bounds-set_stretch-start : goal.set_onward-slice_bounds-set_stretch-start
set_onward-slice_bounds-set_stretch-start t c = omega (arith, (past c.requires _ _ _ _ c.in_ok-taken.ensures).1.low)

pub set_onward-set_stretch-requires : goal.set_onward-set_stretch-requires
set_onward-set_stretch-requires t c =
    let first = past c.requires _ _ _ _ c.in_ok-taken.ensures in
    let given = rest_given c.requires.items first.1 in
    (omega (arith, given.1, first.0, first.1.low), given.0)

pub set_onward-returns-in-Ok : goal.set_onward-returns-in-Ok
set_onward-returns-in-Ok t c =
    let first = past c.requires _ _ _ _ c.in_ok-taken.ensures in
    (along_stretch _ _ first.1 c.room-j.ensures _ (Ok _) c.in-Ok.ensures, omega (arith, first.0))

pub set_onward-returns-in-Err : goal.set_onward-returns-in-Err
set_onward-returns-in-Err t c =
    let first = past c.requires _ _ _ _ c.in_ok-taken.ensures in
    (rw c.behind.ensures (along_stretch _ _ first.1 c.room-j.ensures _ (Err _) c.in-Err.ensures), tt)

-- ---- set_items: a stretch, and then from choice to choice

pub set_items-set_onward-requires : goal.set_items-set_onward-requires
set_items-set_onward-requires t c =
    let given = rest_given c.requires (c.loop-at.invariant.0 c.args.buf.now c.in_ok-first.ensures.0) in
    let opens = c.loop-at.invariant.1 c.loop-at-test.true in
    (omega (arith, given.1), record { items = given.0; opens = ap opening_of (tail_part c.args.s.now c.loop-at.at) ∙ opens })

pub set_items-loop-at-preserved : goal.set_items-loop-at-preserved
set_items-loop-at-preserved t c = (
  λ b so. (along_stretch _ _ (c.loop-at.invariant.0 b so) c.room-j.ensures _ (Ok _) c.in-Ok.ensures.0).0,
  (along_stretch _ _ (c.loop-at.invariant.0 c.args.buf.now c.in_ok-first.ensures.0) c.room-j.ensures _ (Ok _) c.in-Ok.ensures.0).1,
)

pub set_items-returns-in-Err : goal.set_items-returns-in-Err
set_items-returns-in-Err t c =
    rw c.behind.ensures (along_stretch _ _ (c.loop-at.invariant.0 c.args.buf.now c.in_ok-first.ensures.0) c.room-j.ensures _ (Err _) c.in-Err.ensures.0)

pub set_items-returns : goal.set_items-returns
set_items-returns t c = along_done _ _ (c.loop-at.invariant.0 c.args.buf.now c.in_ok-first.ensures.0) c.loop-at-test.false

-- ---- set_noad: the first field

-- an item's own nodes are as many as the definition says
module _ (F : Font) (s : Style) (kind : Kind) {P : Parameters} {f : HasSigns} {n : ℕ} (params : P ≡ F.parameter) (found : f ≡ has_signs F s kind) where
  own_before : n ≡ (own_counts P s kind f).before → n ≡ (own_counts F.parameter s kind (has_signs F s kind)).before
  own_before is = is ∙ ap₂ (λ (P : Parameters) (f : HasSigns). (own_counts P s kind f).before) params found

  own_behind : n ≡ (own_counts P s kind f).behind → n ≡ (own_counts F.parameter s kind (has_signs F s kind)).behind
  own_behind is = is ∙ ap₂ (λ (P : Parameters) (f : HasSigns). (own_counts P s kind f).behind) params found

pub set_noad-set_field-requires : goal.set_noad-set_field-requires
set_noad-set_field-requires t c =
    let a = c.args in
    let noad = noad_at_lem a.s.now a.kind c.requires.opens c.requires.items.list.readable in (
      omega arith,
      field_given c.requires.items.list c.opening_bytes-at.ensures noad.x (omega (arith, noad.first_in, noad.second_in, noad.third_in_lem, noad.end_in)),
    )

pub set_noad-returns-in_err-a : goal.set_noad-returns-in_err-a
set_noad-returns-in_err-a t c =
    let a = c.args in
    let F = font_in a.font.now in
    let params = c.parameters.ensures in
    let noad = noad_at_lem a.s.now a.kind c.requires.opens c.requires.items.list.readable in
    let own₁ = own_before F a.line.style a.kind params c.has_signs-signed.ensures c.own_counts-own.ensures.before_is in
    let own₂ = own_behind F a.line.style a.kind params c.has_signs-signed.ensures c.own_counts-own.ensures.behind_is in
    let lacks =
    lacks_one F a.line.style a.kind a.s.now a.buf.now c.set_field.new.buf noad own₁ own₂ c.room-i.ensures
    (head_by F a.s.now _ _ (Err c.in_err-a.field-0.0) c.first_style-first.ensures c.first_manner-manner.ensures c.opening_bytes-at.ensures c.in_err-a.ensures) in
    let exit = err_from_is_err_and c.from_residual.result c.from_residual.ensures.1 in
    rw (exit.1, exit.2) (noad_lacks F a.kind a.s.now (neighbour_as a.beyond) a.line a.buf.now _ c.requires.opens (first_lacks F a.line.style a.kind a.s.now noad lacks.1) lacks.2 lacks.0)

pub set_noad-set_second-requires : goal.set_noad-set_second-requires
set_noad-set_second-requires t c =
    let a = c.args in
    let F = font_in a.font.now in
    let params = c.parameters.ensures in
    let noad = noad_at_lem a.s.now a.kind c.requires.opens c.requires.items.list.readable in
    let own₁ = own_before F a.line.style a.kind params c.has_signs-signed.ensures c.own_counts-own.ensures.before_is in
    let own₂ = own_behind F a.line.style a.kind params c.has_signs-signed.ensures c.own_counts-own.ensures.behind_is in
    let one =
    set_one F a.line.style a.kind a.s.now a.buf.now c.set_field.new.buf noad own₁ own₂ c.room-i.ensures
    (head_by F a.s.now _ _ (Ok c.in_ok-a.a) c.first_style-first.ensures c.first_manner-manner.ensures c.opening_bytes-at.ensures c.in_ok-a.ensures) in
    (omega arith, record { opened = c.requires; from = _; one = one })

pub set_noad-returns : goal.set_noad-returns
set_noad-returns t c =
    let a = c.args in
    let F = font_in a.font.now in
    let params = c.parameters.ensures in
    let noad = noad_at_lem a.s.now a.kind c.requires.opens c.requires.items.list.readable in
    let own₁ = own_before F a.line.style a.kind params c.has_signs-signed.ensures c.own_counts-own.ensures.before_is in
    let own₂ = own_behind F a.line.style a.kind params c.has_signs-signed.ensures c.own_counts-own.ensures.behind_is in
    let one =
    set_one F a.line.style a.kind a.s.now a.buf.now c.set_field.new.buf noad own₁ own₂ c.room-i.ensures
    (head_by F a.s.now _ _ (Ok c.in_ok-a.a) c.first_style-first.ensures c.first_manner-manner.ensures c.opening_bytes-at.ensures c.in_ok-a.ensures) in
    c.set_second.ensures _ one

-- ---- set_second: the second field, whatever the buffer was before the first

pub set_second-returns-in_err-b : goal.set_second-returns-in_err-b
set_second-returns-in_err-b t c b one =
    let a = c.args in
    let F = font_in a.font.now in
    let place = c.room-j.ensures ∙ ap (λ (n : ℕ). room_for n (length a.buf.now)) c.before_second.ensures in
    let lacks =
    lacks_two F a.line.style a.kind a.s.now one c.set_field.new.buf place
    (head_by F a.s.now _ _ (Err c.in_err-b.field-0.0) c.second_style-style.ensures refl c.requires.one.first_whole.end_is c.in_err-b.ensures) in
    let exit = err_from_is_err_and c.from_residual.result c.from_residual.ensures.1 in
    rw (exit.1, exit.2) (noad_lacks F a.kind a.s.now (neighbour_as a.beyond) a.line b _ c.requires.opened.opens
    (second_lacks F a.line.style a.kind a.s.now one.noad one.first_whole.present lacks.1) lacks.2 lacks.0)

pub set_second-set_third-requires : goal.set_second-set_third-requires
set_second-set_third-requires t c =
    let a = c.args in
    let F = font_in a.font.now in
    let place = c.room-j.ensures ∙ ap (λ (n : ℕ). room_for n (length a.buf.now)) c.before_second.ensures in
    let two =
    set_two F a.line.style a.kind a.s.now c.requires.one c.set_field.new.buf place
    (head_by F a.s.now _ _ (Ok c.in_ok-b.b) c.second_style-style.ensures refl c.requires.one.first_whole.end_is c.in_ok-b.ensures) in
    (omega arith, record { opened = c.requires.opened; from = _; two = two })

pub set_second-returns : goal.set_second-returns
set_second-returns t c b one =
    let a = c.args in
    let F = font_in a.font.now in
    let place = c.room-j.ensures ∙ ap (λ (n : ℕ). room_for n (length a.buf.now)) c.before_second.ensures in
    c.set_third.ensures b
    (set_two F a.line.style a.kind a.s.now one c.set_field.new.buf place
    (head_by F a.s.now _ _ (Ok c.in_ok-b.b) c.second_style-style.ensures refl one.first_whole.end_is c.in_ok-b.ensures))

-- ---- set_third: the third field, if there is one, and the item

-- all three stand in the buffer
three : (t : ℕ) (c : set_third-Joined-has_third t) {b : List ℕ} →
    let a = c.args in
    let F = font_in a.font.now in
    Two F a.line.style a.kind a.s.now a.own.before a.own.behind b a.a a.b a.buf.now →
    Three F a.line.style a.kind a.s.now a.own.before a.own.behind b a.a a.b c.if-has_third.z c.if-has_third.buf
three t c two =
    let a = c.args in
    let F = font_in a.font.now in
    let place = c.room-k.ensures ∙ ap (λ (n : ℕ). room_for (n + a.b.run.count) (length a.buf.now)) c.before_second.ensures in
    elim c.if-has_third.branch [
      | set_third-then-has_third+in_ok-z w ↦
          rw (w.z-is, w.buf-is)
          (set_three F a.line.style a.kind a.s.now two (Ok _) w.set_field.new.buf (sym c.has_third.ensures ∙ w.if-has_third.true) place
          (head_by F a.s.now _ _ (Ok w.in_ok-z.z) w.third_style.ensures refl two.second_whole.end_is w.in_ok-z.ensures))
      | set_third-else-has_third w ↦
          rw (w.z-is, w.buf-is)
          (none_third F a.line.style a.kind a.s.now two w.empty_field-z.result (sym c.has_third.ensures ∙ w.if-has_third.false) w.empty_field-z.ensures)
    ]

pub set_third-returns-in_err-z : goal.set_third-returns-in_err-z
set_third-returns-in_err-z t c b two =
    let a = c.args in
    let F = font_in a.font.now in
    let place = c.room-k.ensures ∙ ap (λ (n : ℕ). room_for (n + a.b.run.count) (length a.buf.now)) c.before_second.ensures in
    let lacks =
    set_three F a.line.style a.kind a.s.now two (Err _) c.set_field.new.buf (sym c.has_third.ensures ∙ c.if-has_third.true) place
    (head_by F a.s.now _ _ (Err c.in_err-z.field-0.0) c.third_style.ensures refl two.second_whole.end_is c.in_err-z.ensures) in
    let exit = err_from_is_err_and c.from_residual.result c.from_residual.ensures.1 in
    rw (exit.1, exit.2) (noad_lacks F a.kind a.s.now (neighbour_as a.beyond) a.line b _ c.requires.opened.opens
    (third_lacks F a.line.style a.kind a.s.now two.noad two.first_whole.present two.second_whole.present lacks.1) lacks.2 lacks.0)

pub set_third-finished-requires : goal.set_third-finished-requires
set_third-finished-requires t c =
    let items = c.requires.opened.items in
    finish_given _ _ _ _ (three t (goal.at.set_third-finished-requires t c).Joined-has_third c.requires.two) (line_more (omega arith) items.small) items.list.short

pub set_third-returns : goal.set_third-returns
set_third-returns t c b two =
    let a = c.args in
    let F = font_in a.font.now in
    let all = three t (goal.at.set_third-returns t c).Joined-has_third two in
    noad_done F a.kind a.s.now (neighbour_as a.beyond) a.line b c.finished.new.buf c.requires.opened.opens
    (record {
      here = refl;
      signs = signs_as c.signs_in-signs.result;
      signs_is = c.signs_in-signs.ensures;
      fields = all;
      alike = right_alike a.kind a.line.style a.s.now (neighbour_as a.beyond) (neighbour_as c.right_of-right.result) all.third_whole.end_is c.right_of-right.ensures;
      done = finished_by c.parameters.ensures c.finished.ensures;
    })
