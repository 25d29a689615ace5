-- The look for the item at a place, step by step.
--     entered_done, behind_done     a step into a span; a step as one from the list around
--     held_list, held_none          the span of a field that is a list, and of one that is none
--     fields_first, fields_second, fields_third     of an item with fields, the field in which the place lies
--     head_starts, kern_none, style_none, choice_span     an item by its opening
--     Along          where the look stands among the items of a list; `along_start`, `along_here`, `along_next`, `along_done` follow it
--     Down           where it stands among the lists; `down_start`, `down_into`, `down_here` follow it
-- Assumes nothing.
use mathlib.Core.Path.{◌≡◌, refl, sym, subst, ap, ap₂, ◌∙◌}
use mathlib.Core.Bool.{Bool, true, false}
use mathlib.Core.List.{List, [], ◌∷◌}
use Rattle.std.specs.Prelude.{Option, Some, None}
use mathlib.Core.Option.{Option as OptionOf, none, some}
use Prim.Native.Nat.{ℕ, zero, suc, ◌+◌, ◌-◌, ◌≤◌, ◌<◌}
use native.Mathlib.Omega.{arith}
use lib.Dec.{leb, ltb}
use lib.ListN.{length, take, drop, length-take, length-drop}
use lib.Seq.{drop-drop}
use denote.Enum.Declared.{tag_of}
use types.Run.{OneOf, miss}
use borrow.Author.Tests.{le-leb, lt-leb, lt-ltb, le-ltb, ltb-true, ltb-false}
use Rattle.laws.specs.Lists.{take_within}
use Rattle.scaled.specs.declared.Sp.{Sp}
use Rattle.formula.specs.declared.Kind.{Kind}
use Rattle.formula.specs.declared.Opening.{Opening}
use Rattle.formula.specs.declared.Opening.TheVariants.{Fields, Kern, Restyle, Choice}
use Rattle.formula.specs.declared.FieldHead.{FieldHead}
use Rattle.formula.specs.declared.FieldHead.TheVariants.{NoField, Empty, Symbol, Sublist, CutSublist}
use Rattle.formula.specs.contracts.FieldHead.{the_type}
use Rattle.formula.specs.Tree.{Items, Item, nil, opening_bytes, list_opening_bytes, items_bytes, item_bytes}
use Rattle.formula.specs.Heads.{opening_of, field_head}
use Rattle.formula.specs.Places.{Readable, tree_of, head_bytes, contents, field_of, GoodField, has_third, head_at, field_end, second, third, end, list_place, choice_lists, item_size, field_in, third_in, list_in, item_of, GoodFieldAt}
use Rattle.formula.specs.Slices.{tail_part}
use Rattle.formula.specs.HeadLaws.{head_fits, list_opening_lem, opening_some, contents_shorter}
use Rattle.formula.specs.PlacesLaws.{tree_none, Noad, noad_at_lem, choice_at_lem, good_some, items_bytes_lem, item_bytes_lem, field_bytes_lem, second_field_lem, third_field_lem}
use Rattle.formula.specs.Format.{formula_limit}
use Rattle.boxes.specs.declared.styles.Style.{Style}
use Rattle.arrange.specs.Arrange.{first_style, second_style, third_style}
use Rattle.setting.specs.Setting.{taken, taken_start}
use Rattle.setting.specs.Picked.{Picked, ◌or_in◌, if_reached, pick_in, pick_at, pick_field}
use Rattle.setting.proofs.PickedLaws.{pick_in_here, pick_in_later, pick_field_before, pick_field_past, pick_at_choice}
use Rattle.walk_looks.specs.declared.current.Span.{Span}
use Rattle.walk_looks.specs.declared.places.Sight.{Sight}
use Rattle.walk_looks.specs.Seen.{part, lists_before, TakenSpan, ItemSeen}
use Rattle.walk_looks.specs.PlaceLaws.{Between, stepped, here, tree_is, next_between}
use Rattle.walk_looks.specs.TakenLaws.{place_taken}
use Rattle.picking.specs.declared.Step.{Step}
use Rattle.picking.specs.declared.Step.TheVariants as step
use Rattle.picking.specs.Picking.{pick_span, SpanIn, HeldSpan, entered_of, pick_head, HeadIs, Entered, span_of, StepDone, behind_of, ShortStep, Spotted}

-- ---- a step into a span

pub entered_done : (u : Style) (s : List ℕ) (c : Span) (place : ℕ) → SpanIn s c → StepDone (pick_span u place c s) place s (entered_of u c place)
unfolding entered_of
entered_done u s c place span = go (ltb place c.first) refl
  where
    inner : OptionOf Picked
    inner = pick_in u (place - c.first) (tree_of (part c s))

    go : (t : Bool) → ltb place c.first ≡ t →
        StepDone (pick_span u place c s) place s (elim t [ true ↦ None | false ↦ Some (step.Into u c.first c.end) ])
    go true e = ap (λ (t : Bool). if_reached t (pick_in u (place - c.first) (tree_of (part c s)))) (lt-leb c.first place (ltb-true place c.first e))
    go false e =
        let low = ltb-false place c.first e in
        record {
          reached = low;
          span = span;
          is = ap (λ (t : Bool). if_reached t (pick_in u (place - c.first) (tree_of (part c s)))) (le-leb c.first place low);
        }

module _ (u : Style) (c : Span) (place : ℕ) where
  entered_by : Bool → Option Step
  entered_by t = elim t [ true ↦ None | false ↦ Some (step.Into u c.first c.end) ]

  pub not_entered : place < c.first → None ≡ entered_of u c place
  unfolding entered_of entered_by
  not_entered h = sym (ap entered_by (lt-ltb place c.first h))

  pub is_entered : c.first ≤ place → Some (step.Into u c.first c.end) ≡ entered_of u c place
  unfolding entered_of entered_by
  is_entered h = sym (ap entered_by (le-ltb place c.first h))

-- what is wanted of a span, where the code has entered it
pub entered_as : (u : Style) (s : List ℕ) (c : Span) (place : ℕ) {want : OptionOf Picked} (r : Option Step) → SpanIn s c → want ≡ pick_span u place c s →
    r ≡ entered_of u c place → StepDone want place s r
entered_as u s c place {want} r span wanted is =
    subst (λ (x : Option Step). StepDone want place s x) (sym is)
    (subst (λ (w : OptionOf Picked). StepDone w place s (entered_of u c place)) (sym wanted) (entered_done u s c place span))

-- ---- a step as one from the list around

module _ (want : OptionOf Picked) (s : List ℕ) {at place : ℕ} (low : at ≤ place) (inside : at ≤ length s) where
  pub behind_done : (r : Option Step) → StepDone want (place - at) (drop at s) r → StepDone want place s (behind_of at r)
  behind_done None h = h
  behind_done (Some (step.Here u)) h =
      let is : at + (place - at) ≡ place = omega arith in
      let same : drop (place - at) (drop at s) ≡ drop place s = drop-drop (place - at) at s ∙ ap (λ (n : ℕ). drop n s) is in
      (omega (arith, h.0, length-drop at s), subst (HeadIs want u) same h.1)
  behind_done (Some (step.Into u a b)) h =
      let long = length-drop at s in
      let span = h.span in
      let reached = h.reached in
      let inner = part_behind a b in
      record {
        reached = omega arith;
        span =
            record {
              some = omega (arith, span.some);
              ordered = omega (arith, span.ordered);
              inside = omega (arith, span.inside);
              readable = rw inner span.readable;
            };
        is = h.is ∙ ap₂ (λ (n : ℕ) (l : List ℕ). pick_in u n (tree_of l)) (omega arith) (sym inner);
      }
    where
      part_behind : (a b : ℕ) → part (span_of (at + a) (at + b)) s ≡ part (span_of a b) (drop at s)
      part_behind a b =
          let e : at + b - (at + a) ≡ b - a = omega arith in
          rw e (ap (take (b - a)) (sym (drop-drop a at s)))

-- a step keeps within the list
pub short_step : (want : OptionOf Picked) (place : ℕ) (b : List ℕ) (n : ℕ) (r : Option Step) → StepDone want place b r → n + length b ≤ formula_limit → ShortStep n r
short_step want place b n None h l = tt
short_step want place b n (Some (step.Here u)) h l = tt
short_step want place b n (Some (step.Into u first end)) h l = (h.span.ordered, omega (arith, h.span.inside))

-- ---- the span of a field

-- no list, as the code's test tells it
abbrev pub NoList : FieldHead → Type 0
NoList h = OneOf (0 ∷ 1 ∷ 2 ∷ 4 ∷ []) (tag_of the_type h)

nothing_in : (u : Style) (at place : ℕ) (b : List ℕ) (h : FieldHead) → NoList h → pick_field u at place (field_of b h) ≡ none
unfolding pick_field
nothing_in u at place b NoField other = refl
nothing_in u at place b Empty other = refl
nothing_in u at place b (Symbol family code) other = refl
nothing_in u at place b (Sublist opening n) other = absurd (miss (0 ∷ 1 ∷ 2 ∷ 4 ∷ []) 3 tt other)
nothing_in u at place b CutSublist other = refl

none_in : (u : Style) (n : ℕ) → pick_in u n nil ≡ none
unfolding pick_in
none_in u n = refl

never_reached : (t : Bool) → if_reached t none ≡ none
never_reached true = refl
never_reached false = refl

module _ (s : List ℕ) (at : ℕ) (good : GoodFieldAt s at) (inside : at ≤ length s) where
  ends : field_end s at ≤ length s
  ends = omega (arith, head_fits (drop at s) (head_at s at) refl, length-drop at s)

  pub held_none : NoList (head_at s at) → HeldSpan s at (span_of (field_end s at) (field_end s at))
  held_none other =
      let k = field_end s at in
      let empty-span : k - k ≡ 0 = omega arith in
      let none_there : part (span_of k k) s ≡ [] = ap (λ (n : ℕ). take n (drop k s)) empty-span in
      let no_items = tree_none [] refl in
      let some = good_some (drop at s) (head_at s at) refl good in
      record {
        end_is = refl;
        span = record { some = omega arith; ordered = omega arith; inside = ends; readable = rw none_there no_items.0 };
        picks = λ u place.
            nothing_in u at place (drop at s) (head_at s at) other
            ∙ sym (ap (λ (l : List ℕ). if_reached (leb k place) (pick_in u (place - k) (tree_of l))) none_there
            ∙ ap (λ (l : Items). if_reached (leb k place) (pick_in u (place - k) l)) no_items.1
            ∙ ap (if_reached (leb k place)) (none_in u (place - k))
            ∙ never_reached (leb k place));
      }

  module _ {opening n : ℕ} (is : head_at s at ≡ Sublist opening n) where
    list_here : Readable (contents opening n (drop at s))
    list_here = subst (GoodField (drop at s)) is good

    starts : at + list_opening_bytes (items_bytes (tree_of (contents opening n (drop at s)))) ≡ at + opening
    starts =
        let long = items_bytes_lem (contents opening n (drop at s)) list_here ∙ (contents_shorter (drop at s) opening n is).0 in
        ap (λ (k : ℕ). at + list_opening_bytes k) long ∙ ap (λ (k : ℕ). at + k) (sym (list_opening_lem (drop at s) opening n is))

    pub held_list : HeldSpan s at (span_of (at + opening) (at + (opening + n)))
    unfolding pick_field
    held_list =
        let b = drop at s in
        let fits = head_fits b (Sublist opening n) is in
        let c = span_of (at + opening) (at + (opening + n)) in
        let long : at + (opening + n) - (at + opening) ≡ n = omega arith in
        let inner : part c s ≡ contents opening n b =
        ap (λ (k : ℕ). take k (drop (at + opening) s)) long ∙ ap (take n) (sym (drop-drop opening at s)) in
        let opens = list_opening_lem b opening n is in
        record {
          end_is = ap (λ (h : FieldHead). at + head_bytes h) (sym is);
          span =
              record {
                some = omega (arith, opening_some n);
                ordered = omega arith;
                inside = omega (arith, length-drop at s);
                readable = rw inner list_here;
              };
          picks = λ u place.
              ap (λ (h : FieldHead). pick_field u at place (field_of b h)) is
              ∙ ap₂ (λ (k : ℕ) (l : List ℕ). if_reached (leb k place) (pick_in u (place - k) (tree_of l))) starts (sym inner);
        }

  -- as the code reads it
  module _ {h : FieldHead} (read : h ≡ field_head (take (length s - at) (drop at s))) where
    head_is : head_at s at ≡ h
    head_is = sym (read ∙ ap field_head (tail_part s at))

    pub head_short : at + head_bytes h ≤ length s
    head_short = rw head_is at ends

    module _ {n : ℕ} (bytes : n ≡ head_bytes h) where
      pub held_other : NoList h → HeldSpan s at (span_of (at + n) (at + n))
      held_other other =
          let is : field_end s at ≡ at + n = ap (λ (g : FieldHead). at + head_bytes g) head_is ∙ ap (λ (k : ℕ). at + k) (sym bytes) in
          subst (λ (k : ℕ). HeldSpan s at (span_of k k)) is (held_none (subst NoList (sym head_is) other))

      pub held_sublist : {opening m : ℕ} → h ≡ Sublist opening m → HeldSpan s at (span_of (at + opening) (at + n))
      held_sublist {opening} {m} is =
          let long : opening + m ≡ n = sym (bytes ∙ ap head_bytes is) in
          subst (λ (k : ℕ). HeldSpan s at (span_of (at + opening) (at + k))) long (held_list (head_is ∙ is))

-- the field in which the place lies
pub held_as : (u : Style) (s : List ℕ) (at : ℕ) (c : Span) (place : ℕ) {want : OptionOf Picked} (r : Option Step) → HeldSpan s at c →
    want ≡ pick_field u at place (field_in s at) → r ≡ entered_of u c place → StepDone want place s r
held_as u s at c place r held wanted is = entered_as u s c place r held.span (wanted ∙ held.picks u place) is

-- ---- an item with fields: the field in which the place lies

or_in_none : (a : OptionOf Picked) → a or_in none ≡ a
or_in_none none = refl
or_in_none (some q) = refl

module _ (u : Style) (s : List ℕ) (kind : Kind) (opens : opening_of s ≡ Fields kind) (r : Readable s) where
  pub noad_here : Noad s kind
  noad_here = noad_at_lem s kind opens r

  pub head_starts : (want : OptionOf Picked) → want ≡ pick_head u 0 s → HeadIs want u s
  unfolding pick_at
  head_starts want is =
      record { kind = kind; opens = opens; readable = r; is = is ∙ ap (λ (o : Opening). pick_at u 0 (item_of s o)) opens }

  -- at its first byte
  pub step_here : (place : ℕ) → place ≡ 0 → StepDone (pick_head u place s) place s (Some (step.Here u))
  step_here place e =
      subst (λ (n : ℕ). StepDone (pick_head u n s) n s (Some (step.Here u))) (sym e)
      (omega (arith, noad_here.long, noad_here.end_in), head_starts _ refl)

  module _ (place : ℕ) (some : 0 < place) where
    abbrev in_x : OptionOf Picked
    in_x = pick_field (first_style kind u) (opening_bytes kind) place (field_in s (opening_bytes kind))

    abbrev in_y : OptionOf Picked
    in_y = pick_field (second_style kind u) (second s kind) place (field_in s (second s kind))

    abbrev in_z : OptionOf Picked
    in_z = pick_field (third_style u) (third s kind) place (third_in s (has_third kind) (third s kind))

    fields : pick_head u place s ≡ in_x or_in in_y or_in in_z
    unfolding pick_at
    fields = ap (λ (o : Opening). pick_at u place (item_of s o)) opens ∙ go place some
      where
        go : (n : ℕ) → 0 < n →
            pick_at u n (item_of s (Fields kind))
            ≡ pick_field (first_style kind u) (opening_bytes kind) n (field_in s (opening_bytes kind))
            or_in pick_field (second_style kind u) (second s kind) n (field_in s (second s kind))
            or_in pick_field (third_style u) (third s kind) n (third_in s (has_third kind) (third s kind))
        go zero h = absurd (omega arith)
        go (suc n) h =
            ap₂ (λ (k m : ℕ).
            pick_field (first_style kind u) (opening_bytes kind) (suc n) (field_in s (opening_bytes kind))
            or_in pick_field (second_style kind u) k (suc n) (field_in s (second s kind))
            or_in pick_field (third_style u) m (suc n) (third_in s (has_third kind) (third s kind)))
            (second_field_lem s kind noad_here) (third_field_lem s kind noad_here)

    x_past : second s kind ≤ place → in_x ≡ none
    x_past h = pick_field_past (first_style kind u) (opening_bytes kind) place _ (omega (arith, second_field_lem s kind noad_here))

    y_past : third s kind ≤ place → in_y ≡ none
    y_past h =
        pick_field_past (second_style kind u) (second s kind) place _
        (omega (arith, field_bytes_lem s (second s kind) noad_here.y))

    z_before : place < third s kind → in_z ≡ none
    z_before h = pick_field_before (third_style u) (third s kind) place _ h

    pub fields_first : place < second s kind → pick_head u place s ≡ in_x
    fields_first h =
        let y = pick_field_before (second_style kind u) (second s kind) place (field_in s (second s kind)) h in
        let z = z_before (omega (arith, noad_here.second_in)) in
        fields ∙ ap₂ (λ (a b : OptionOf Picked). in_x or_in a or_in b) y z ∙ or_in_none in_x

    pub fields_second : second s kind ≤ place → place < third s kind → pick_head u place s ≡ in_y
    fields_second low h =
        fields ∙ ap₂ (λ (a b : OptionOf Picked). a or_in in_y or_in b) (x_past low) (z_before h) ∙ or_in_none in_y

    pub fields_third : third s kind ≤ place → pick_head u place s ≡ in_z
    fields_third low =
        fields ∙ ap₂ (λ (a b : OptionOf Picked). a or_in b or_in in_z) (x_past (omega (arith, noad_here.second_in))) (y_past low)

-- ---- an item without fields

module _ (u : Style) (place : ℕ) (s : List ℕ) where
  pub kern_none : (n : Sp) → opening_of s ≡ Kern n → pick_head u place s ≡ none
  unfolding pick_at
  kern_none n opens = ap (λ (o : Opening). pick_at u place (item_of s o)) opens

  pub style_none : (n : ℕ) → opening_of s ≡ Restyle n → pick_head u place s ≡ none
  unfolding pick_at
  style_none n opens = ap (λ (o : Opening). pick_at u place (item_of s o)) opens

  module _ (opens : opening_of s ≡ Choice) (r : Readable s) {c : Span} (span : TakenSpan u s c) where
    abbrev lists : Items
    lists = taken u (list_in s 0) (list_in s 1) (list_in s 2) (list_in s 3)

    start_is : taken_start u (list_in s 0) (list_in s 1) (list_in s 2) (list_in s 3) ≡ c.first
    start_is =
        let chosen = choice_at_lem s opens r in
        ap₂ (λ (n : ℕ) (l : Items). n + list_opening_bytes (items_bytes l)) (sym (place_taken s chosen u)) (sym span.tree)
        ∙ ap (λ (n : ℕ). list_place s (lists_before u) + list_opening_bytes n) (items_bytes_lem (part c s) span.readable)
        ∙ sym span.first_is

    pub choice_span : (pick_head u place s ≡ pick_span u place c s) × SpanIn s c
    choice_span =
        let chosen = choice_at_lem s opens r in (
          ap (λ (o : Opening). pick_at u place (item_of s o)) opens
              ∙ pick_at_choice u place (list_in s 0) (list_in s 1) (list_in s 2) (list_in s 3)
              ∙ ap₂ (λ (k : ℕ) (l : Items). if_reached (leb k place) (pick_in u (place - k) l)) start_is (sym span.tree),
          record {
            some = omega (arith, span.first_is, opening_some (length (part c s)));
            ordered = span.ordered;
            inside = omega (arith, span.inside, chosen.places_in choice_lists);
            readable = span.readable;
          },
        )

-- ---- among the items of a list

pub record Along (u : Style) (place : ℕ) (s : List ℕ) (at : ℕ) (current : Style) : Type 0 where
  pub between : Between s at
  pub low : at ≤ place
  pub is : pick_in u place (tree_of s) ≡ pick_in current (place - at) (tree_of (drop at s))

pub along_start : (u : Style) (place : ℕ) (s : List ℕ) → Readable s → Along u place s 0 u
along_start u place s r =
    let same : place ≡ place - 0 = omega arith in
    record {
      between = record { inside = omega arith; readable = r };
      low = omega arith;
      is = ap (λ (n : ℕ). pick_in u n (tree_of s)) same;
    }

module _ {u : Style} {place : ℕ} {s : List ℕ} {at : ℕ} {current : Style} (a : Along u place s at current) where
  pub along_done : length s ≤ at → pick_in u place (tree_of s) ≡ none
  unfolding pick_in
  along_done h =
      a.is ∙ ap (pick_in current (place - at)) (tree_none (drop at s) (omega (arith, length-drop at s))).1

  module _ (more : at < length s) {c : Sight} (seen : ItemSeen current (take (length s - at) (drop at s)) c) where
    abbrev rest : List ℕ
    rest = drop at s

    abbrev item : Item
    item = item_of rest (opening_of rest)

    long : item_bytes item ≡ c.bytes
    long =
        item_bytes_lem rest (opening_of rest) (stepped a.between more).item ∙ sym (here a.between more seen).bytes_is

    pub along_here : place < at + c.bytes → pick_in u place (tree_of s) ≡ pick_head current (place - at) rest
    along_here h =
        let low = a.low in
        a.is
        ∙ ap (pick_in current (place - at)) (tree_is a.between more seen)
        ∙ pick_in_here current (place - at) item _ (omega (arith, long))

    -- and the place lies in that item
    pub here_inside : place < at + c.bytes → place - at < item_size rest (opening_of rest)
    here_inside h = omega (arith, (here a.between more seen).bytes_is, a.low)

    pub along_next : at + c.bytes ≤ place → Along u place s (at + c.bytes) c.style
    along_next h =
        let low = a.low in
        record {
          between = next_between a.between more seen;
          low = h;
          is =
              a.is
              ∙ ap (pick_in current (place - at)) (tree_is a.between more seen)
              ∙ pick_in_later current (place - at) item _ (omega (arith, long))
              ∙ ap₂ (λ (v : Style) (n : ℕ). pick_in v n (tree_of (drop (at + c.bytes) s))) (sym (here a.between more seen).style_is) (omega (arith, long));
        }

-- ---- among the lists

pub record Down (u : Style) (place : ℕ) (s : List ℕ) (first end : ℕ) (current : Style) : Type 0 where
  pub low : first ≤ place
  pub ordered : first ≤ end
  pub inside : end ≤ length s
  pub readable : Readable (take (end - first) (drop first s))
  pub is : pick_in u place (tree_of s) ≡ pick_in current (place - first) (tree_of (take (end - first) (drop first s)))

pub down_start : (u : Style) (place : ℕ) (s : List ℕ) → Readable s → Down u place s 0 (length s) u
down_start u place s r =
    let whole : take (length s - 0) (drop 0 s) ≡ s = tail_part s 0 in
    let same : place ≡ place - 0 = omega arith in
    record {
      low = omega arith;
      ordered = omega arith;
      inside = omega arith;
      readable = rw whole r;
      is = ap₂ (λ (n : ℕ) (l : List ℕ). pick_in u n (tree_of l)) same (sym whole);
    }

module _ {u : Style} {place : ℕ} {s : List ℕ} {first end : ℕ} {current : Style} (d : Down u place s first end current) where
  abbrev inner : List ℕ
  inner = take (end - first) (drop first s)

  pub inner_long : length inner ≡ end - first
  inner_long =
      let ordered = d.ordered in
      let inside = d.inside in
      omega (arith, length-take (end - first) (drop first s), length-drop first s)

  part_is : (a b : ℕ) → a ≤ b → b ≤ length inner → take (b - a) (drop a inner) ≡ take (first + b - (first + a)) (drop (first + a) s)
  part_is a b low high =
      let e : first + b - (first + a) ≡ b - a = omega arith in
      take_within a (b - a) (end - first) (drop first s) (omega (arith, inner_long))
      ∙ ap₂ (λ (n : ℕ) (l : List ℕ). take n l) (sym e) (drop-drop a first s)

  module _ {v : Style} {a b : ℕ} (h : Entered (pick_in current (place - first) (tree_of inner)) v (place - first) inner (span_of a b)) where
    pub down_into : Down u place s (first + a) (first + b) v
    down_into =
        let span = h.span in
        let ordered = span.ordered in
        let inside = span.inside in
        let reached = h.reached in
        let low = d.low in
        let is = part_is a b ordered inside in
        record {
          low = omega arith;
          ordered = omega arith;
          inside = omega (arith, inner_long, d.inside, d.ordered);
          readable = rw (← is) span.readable;
          is =
              d.is
              ∙ h.is
              ∙ ap₂ (λ (n : ℕ) (l : List ℕ). pick_in v n (tree_of l)) (omega arith) is;
        }

    -- the list is shorter
    pub into_shorter : (first + b) - (first + a) < end - first
    into_shorter =
        let span = h.span in
        omega (arith, span.some, span.ordered, span.inside, inner_long)

    pub into_inside : (first + b ≤ length s) × (a ≤ b)
    into_inside =
        let span = h.span in
        (omega (arith, span.inside, inner_long, d.inside, d.ordered), span.ordered)

  pub down_here : {v : Style} → (place - first < length inner) → HeadIs (pick_in current (place - first) (tree_of inner)) v (drop (place - first) inner) →
      Spotted (pick_in u place (tree_of s)) v place s end
  down_here {v} l h =
      let low = d.low in
      let long = inner_long in
      let n = place - first in
      let ends : first + length inner - (first + n) ≡ end - place = omega arith in
      let starts-at : first + n ≡ place = omega arith in
      let back : drop n inner ≡ take (end - place) (drop place s) =
      sym (tail_part inner n)
      ∙ part_is n (length inner) (omega arith) (omega arith)
      ∙ ap₂ (λ (k : ℕ) (m : ℕ). take k (drop m s)) ends starts-at in
      record {
        low = omega arith;
        inside = d.inside;
        head = subst (HeadIs (pick_in u place (tree_of s)) v) back (head_as (sym d.is) h);
      }
    where
      head_as : {want want' : OptionOf Picked} {b : List ℕ} → want ≡ want' → HeadIs want v b → HeadIs want' v b
      head_as e k = record { kind = k.kind; opens = k.opens; readable = k.readable; is = sym e ∙ k.is }
