-- What the functions promise that look for the item at a place, and that say what decided its shifts.
--     pick_span, pick_head     what is picked of the items of a span, and of the item at the head of some bytes
--     SpanIn, HeldSpan       a span that can be entered; that of a field's items
--     StepDone               a step from a list, or from an item at its head: what is wanted there is what is wanted where it leads
--     PickDone               the item that is picked
--     ShapeDone, HeadReasonsAre     the shape of a field; the reasons of the item at the head of some bytes
-- Assumes nothing.
use Rattle.std.specs.Prelude.{◌≡◌, true, false, List, ℕ, ◌+◌, ◌-◌, ◌≤◌, ◌<◌, leb, ltb, length, take, drop}
use Rattle.std.specs.Prelude.{Option, Some, None}
use Rattle.std.proofs.Math.Option.{Option as OptionOf, none, some}
use Rattle.font.specs.Font.{Font}
use Rattle.formula.specs.declared.Kind.{Kind}
use Rattle.formula.specs.declared.Opening.TheVariants.{Fields}
use Rattle.formula.specs.Tree.{Items, Field, opening_bytes}
use Rattle.formula.specs.Heads.{opening_of}
use Rattle.formula.specs.Places.{Readable, tree_of, has_third, second, third, field_end, field_in, third_in, item_of, GoodThird}
use Rattle.formula.specs.Format.{formula_limit}
use Rattle.boxes.specs.declared.styles.Style.{Style}
use Rattle.boxes.specs.declared.Shape.{Shape}
use Rattle.boxes.specs.Values.{shape_as}
use Rattle.boxes.specs.Bounds.{ModerateShape}
use Rattle.arrange.specs.declared.Manner.{Manner}
use Rattle.reasons.specs.declared.Reasons.{Reasons}
use Rattle.reasons.specs.Values.{item_reasons_as}
use Rattle.setting.specs.Setting.{set_field}
use Rattle.setting.specs.Missing.{missing_field, missing_items}
use Rattle.setting.specs.Fitting.{field_fits, items_fit}
use Rattle.setting.specs.Picked.{Picked, picked, if_reached, pick_in, pick_at, pick_field, picked_reasons, reasons_at}
use Rattle.setting.proofs.PickedLaws.{Sound}
use Rattle.walk_looks.specs.declared.current.Span.{Span}
use Rattle.walk_looks.specs.Seen.{part}
use Rattle.picking.specs.declared.Step.{Step}
use Rattle.picking.specs.declared.Step.TheVariants as step
use Rattle.picking.specs.declared.Spot.{Spot}

-- ---- a span of s, for a place of s

abbrev pub pick_span : Style → ℕ → Span → List ℕ → OptionOf Picked
pick_span u place c s = if_reached (leb c.first place) (pick_in u (place - c.first) (tree_of (part c s)))

pub record SpanIn (s : List ℕ) (c : Span) : Type 0 where
  pub some : 0 < c.first
  pub ordered : c.first ≤ c.end
  pub inside : c.end ≤ length s
  pub readable : Readable (part c s)

-- that of the field at a place
pub record HeldSpan (s : List ℕ) (at : ℕ) (c : Span) : Type 0 where
  pub end_is : c.end ≡ field_end s at
  pub span : SpanIn s c
  pub picks : (u : Style) (place : ℕ) → pick_field u at place (field_in s at) ≡ pick_span u place c s

-- into the items of a span, if the place is not before them
unfoldable pub entered_of : Style → Span → ℕ → Option Step
entered_of u c place = elim (ltb place c.first) [ true ↦ None | false ↦ Some (step.Into u c.first c.end) ]

-- ---- the item at the head of some bytes

abbrev pub pick_head : Style → ℕ → List ℕ → OptionOf Picked
pick_head u place s = pick_at u place (item_of s (opening_of s))

-- one with fields
abbrev pub head_picked : Style → Kind → List ℕ → Picked
head_picked u kind s =
    picked u kind (field_in s (opening_bytes kind)) (field_in s (second s kind)) (third_in s (has_third kind) (third s kind))

pub record HeadIs (want : OptionOf Picked) (u : Style) (s : List ℕ) : Type 0 where
  pub kind : Kind
  pub opens : opening_of s ≡ Fields kind
  pub readable : Readable s
  pub is : want ≡ some (head_picked u kind s)

-- ---- a step

pub record Entered (want : OptionOf Picked) (u : Style) (place : ℕ) (s : List ℕ) (c : Span) : Type 0 where
  pub reached : c.first ≤ place
  pub span : SpanIn s c
  pub is : want ≡ pick_in u (place - c.first) (tree_of (part c s))

abbrev pub span_of : ℕ → ℕ → Span
span_of first end = record { first = first; end = end }

abbrev pub StepDone : OptionOf Picked → ℕ → List ℕ → Option Step → Type 0
StepDone want place s None = want ≡ none
StepDone want place s (Some (step.Here u)) = (place < length s) × HeadIs want u (drop place s)
StepDone want place s (Some (step.Into u first end)) = Entered want u place s (span_of first end)

-- the same step, where so many bytes stand before
abbrev pub behind_of : ℕ → Option Step → Option Step
behind_of n None = None
behind_of n (Some (step.Here u)) = Some (step.Here u)
behind_of n (Some (step.Into u first end)) = Some (step.Into u (n + first) (n + end))

abbrev pub ShortStep : ℕ → Option Step → Type 0
ShortStep n None = Unit {0}
ShortStep n (Some (step.Here u)) = Unit {0}
ShortStep n (Some (step.Into u first end)) = (first ≤ end) × (n + end ≤ formula_limit)

-- ---- the item that is picked

pub record Spotted (want : OptionOf Picked) (u : Style) (place : ℕ) (s : List ℕ) (end : ℕ) : Type 0 where
  pub low : place < end
  pub inside : end ≤ length s
  pub head : HeadIs want u (take (end - place) (drop place s))

abbrev pub PickedBy : OptionOf Picked → ℕ → List ℕ → Option Spot → Type 0
PickedBy want place s None = want ≡ none
PickedBy want place s (Some r) = Spotted want r.style place s r.end

abbrev pub PickDone : Style → ℕ → List ℕ → Option Spot → Type 0
PickDone u place s r = PickedBy (pick_in u place (tree_of s)) place s r

-- ---- its reasons

-- what is given for a third field that may be there
pub record ThirdGiven (kind : Kind) (s : List ℕ) (at : ℕ) : Type 0 where
  pub good : GoodThird s (has_third kind) at
  pub inside : at ≤ length s
  pub short : length s ≤ formula_limit

-- the shape of a field, if nothing is missing of it and it fits
pub record ShapeDone (F : Font) (u : Style) (manner : Manner) (at : ℕ) (f : Field) (r : Shape) : Type 0 where
  pub moderate : ModerateShape r
  pub is : missing_field F u manner at f ≡ none → field_fits F u manner f ≡ true → shape_as r ≡ (set_field F u manner f).shape

abbrev pub HeadReasonsAre : Font → Style → Kind → List ℕ → Option Reasons → Type 0
HeadReasonsAre F u kind s r = Sound F (head_picked u kind s) → item_reasons_as r ≡ picked_reasons F (head_picked u kind s)

abbrev pub ItemReasonsAre : Font → Style → List ℕ → Option Reasons → Type 0
ItemReasonsAre F u s r = (kind : Kind) → opening_of s ≡ Fields kind → HeadReasonsAre F u kind s r

-- the item that starts at a place of a list, if nothing is missing of the list and all in it fits
abbrev pub PlaceReasonsAre : Font → Style → ℕ → Items → Option Reasons → Type 0
PlaceReasonsAre F u place l r =
    missing_items F u l ≡ none → items_fit F u l ≡ true → item_reasons_as r ≡ reasons_at F u place l
