-- What the setters of the cycle ask and promise beside those of lists and fields: an item (`ItemDone`), an item that is no choice
-- (`StepDone`), the items up to a choice (`StretchDone`), and an item whose first field, or first two, stand in the buffer (`SecondDone`,
-- `ThirdDone`): it is what it comes to from the buffer before its first field.
-- Assumes nothing.
use Rattle.std.specs.Prelude.{◌≡◌, Bool, true, ◌&&◌, List, Option, Some, None, Result, Ok, Err, ℕ, ◌≤◌, ◌<◌, length, drop}
use Rattle.std.proofs.Math.Option.{none, some}
use Rattle.font.specs.Font.{Font, Tables, font_in}
use Rattle.formula.specs.declared.Kind.{Kind}
use Rattle.formula.specs.declared.Opening.{Opening}
use Rattle.formula.specs.declared.Opening.TheVariants.{Choice, Fields}
use Rattle.formula.specs.Heads.{opening_of}
use Rattle.formula.specs.Places.{Readable, tree_of, item_size, item_of}
use Rattle.boxes.specs.declared.styles.Style.{Style}
use Rattle.spacing.specs.Classes.{Neighbour}
use Rattle.nodes.specs.Kept.{Kept}
use Rattle.setting.specs.Setting.{Line, style_after, style_behind, next_class, set_item, set_items}
use Rattle.setting.specs.Missing.{later, missing_item, missing_items}
use Rattle.setting.specs.Fitting.{item_fits, items_fit}
use Rattle.arrange.specs.declared.OwnCounts.{OwnCounts}
use Rattle.walk_fields.specs.declared.fields.FieldBox as fields
use Rattle.walk_fields.specs.declared.fields.Missing.{Missing}
use Rattle.walk_fields.specs.declared.lines.Line as lines
use Rattle.walk_fields.specs.Values.{bare_line}
use Rattle.walk_fields.specs.Lists.{ItemsGiven, Added, ItemsDone}
use Rattle.walk_items.specs.Standing.{One, Two}
use Rattle.walk.specs.declared.lists.Stretch.{Stretch}

-- and what opens at its head
pub record OpenedGiven (s : List ℕ) (o : Opening) (l : lines.Line) : Type 0 where
  pub items : ItemsGiven s l
  pub opens : opening_of s ≡ o

-- the class of the atom that follows the item that opens with o at the head of some bytes, behind a line of the style s
abbrev pub class_behind : Style → Neighbour → List ℕ → Opening → Neighbour
class_behind s beyond bytes o =
    next_class (style_behind s (item_of bytes o)) beyond (tree_of (drop (item_size bytes o) bytes))

-- that item
abbrev pub OpenedDone : Font → Neighbour → List ℕ → Opening → lines.Line → List ℕ → Result Stretch Missing → List ℕ → Type 0
OpenedDone F beyond bytes o line b (Ok c) b' =
    (missing_item F line.style (item_of bytes o) ≡ none)
    × (c.bytes ≡ item_size bytes o)
    × Added (item_fits F line.style (item_of bytes o))
    (set_item F (class_behind line.style beyond bytes o) (bare_line line) (item_of bytes o)) c.bytes line b c.line b'
OpenedDone F beyond bytes o line b (Err m) b' =
    (missing_item F line.style (item_of bytes o) ≡ some m.place) × (m.place ≤ item_size bytes o) × Kept (item_size bytes o) b b'

abbrev pub ItemDone : Font → Neighbour → List ℕ → lines.Line → List ℕ → Result Stretch Missing → List ℕ → Type 0
ItemDone F beyond bytes line b r b' = OpenedDone F beyond bytes (opening_of bytes) line b r b'

-- the same, but that a choice is left alone
abbrev pub StepDone : Font → Neighbour → List ℕ → lines.Line → List ℕ → Result (Option Stretch) Missing → List ℕ → Type 0
StepDone F beyond bytes line b (Ok (Some c)) b' = ItemDone F beyond bytes line b (Ok c) b'
StepDone F beyond bytes line b (Ok None) b' = (opening_of bytes ≡ Choice) × (b' ≡ b)
StepDone F beyond bytes line b (Err m) b' = ItemDone F beyond bytes line b (Err m) b'

-- the items before a place of a list have been set, behind the line l₀, which is now l, and b₀ is now b: what is missing, what fits, the
-- style and the line of the whole go on from there
pub record Along (F : Font) (beyond : Neighbour) (s : List ℕ) (l₀ : lines.Line) (b₀ : List ℕ) (at : ℕ) (l : lines.Line) (b : List ℕ) : Type 0 where
  pub fits : Bool
  pub line : Line
  pub low : at ≤ length s
  pub rest : Readable (drop at s)
  pub lacks : missing_items F l₀.style (tree_of s) ≡ later at (missing_items F l.style (tree_of (drop at s)))
  pub all_fit : items_fit F l₀.style (tree_of s) ≡ (fits && items_fit F l.style (tree_of (drop at s)))
  pub style_is : style_after l₀.style (tree_of s) ≡ style_after l.style (tree_of (drop at s))
  pub sets : fits ≡ true → set_items F beyond (bare_line l₀) (tree_of s) ≡ set_items F beyond line (tree_of (drop at s))
  pub added : Added fits line at l₀ b₀ l b

-- a choice, or nothing, stands at a place of a list
abbrev pub StopsAt : List ℕ → ℕ → Type 0
StopsAt s at = at < length s → opening_of (drop at s) ≡ Choice

-- the first items of a list, up to a choice
abbrev pub StretchDone : Font → Neighbour → List ℕ → lines.Line → List ℕ → Result Stretch Missing → List ℕ → Type 0
StretchDone F beyond s line b (Ok c) b' = Along F beyond s line b c.bytes c.line b' × StopsAt s c.bytes
StretchDone F beyond s line b (Err m) b' = ItemsDone F beyond (tree_of s) (length s) line b (Err m) b'

-- there are some
abbrev pub Onward : Result Stretch Missing → Type 0
Onward (Ok c) = 0 < c.bytes
Onward (Err m) = Unit {0}

-- ---- the fields of an item, one behind another

-- the first field of the item that opens stands in the buffer v
pub record SecondGiven (t : Tables) (s : List ℕ) (kind : Kind) (l : lines.Line) (own : OwnCounts) (a : fields.FieldBox) (v : List ℕ) : Type 0 where
  pub opened : OpenedGiven s (Fields kind) l
  pub from : List ℕ
  pub one : One (font_in t) l.style kind s own.before own.behind from a v

-- and the second
pub record ThirdGiven (t : Tables) (s : List ℕ) (kind : Kind) (l : lines.Line) (own : OwnCounts) (a b : fields.FieldBox) (v : List ℕ) : Type 0 where
  pub opened : OpenedGiven s (Fields kind) l
  pub from : List ℕ
  pub two : Two (font_in t) l.style kind s own.before own.behind from a b v

abbrev pub SecondDone : Font → Neighbour → List ℕ → Kind → lines.Line → OwnCounts → fields.FieldBox → List ℕ → Result Stretch Missing → List ℕ → Type 0
SecondDone F beyond s kind l own a v r v' =
    (b₀ : List ℕ) → One F l.style kind s own.before own.behind b₀ a v → ItemDone F beyond s l b₀ r v'

abbrev pub ThirdDone : Font → Neighbour → List ℕ → Kind → lines.Line → OwnCounts → fields.FieldBox → fields.FieldBox → List ℕ → Result Stretch Missing → List ℕ → Type 0
ThirdDone F beyond s kind l own a b v r v' =
    (b₀ : List ℕ) → Two F l.style kind s own.before own.behind b₀ a b v → ItemDone F beyond s l b₀ r v'
