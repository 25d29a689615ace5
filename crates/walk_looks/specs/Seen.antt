-- What the functions promise that look at items without setting them.
--     TakenSpan     the items of the list that a choice's style takes
--     ItemSeen, ItemsSeen     the class of the first atom of an item and of a list's items, and the style behind them
--     SetsAlike     two classes beyond some items with which they are set alike
--     ChangesAlike     two classes beyond an item with which its own is changed alike
-- Assumes nothing.
use Rattle.std.specs.Prelude.{◌≡◌, List, ℕ, ◌+◌, ◌-◌, ◌<◌, ◌≤◌, length, take, drop}
use Rattle.std.proofs.Math.Option.{none}
use Rattle.font.specs.Font.{Font}
use Rattle.formula.specs.declared.Opening.{Opening}
use Rattle.formula.specs.Tree.{Items, list_opening_bytes}
use Rattle.formula.specs.Heads.{opening_of}
use Rattle.formula.specs.Places.{Readable, tree_of, choice_lists, list_place, list_in, item_size, item_of}
use Rattle.boxes.specs.declared.styles.Style.{Style}
use Rattle.spacing.specs.Classes.{Neighbour, class_of, changed_class}
use Rattle.spacing.specs.Values.{neighbour_as}
use Rattle.setting.specs.Setting.{taken, style_after, style_behind, next_class, class_at, Line, set_items}
use Rattle.formula.specs.declared.Kind.{Kind}
use Rattle.walk_looks.specs.declared.current.Span.{Span}
use Rattle.walk_looks.specs.declared.places.Sight.{Sight}

-- the bytes of a span
abbrev pub part : Span → List ℕ → List ℕ
part c s = take (c.end - c.first) (drop c.first s)

-- how many of a choice's lists stand before the one taken
abbrev pub lists_before : Style → ℕ
lists_before style = taken style 0 1 2 3

pub record TakenSpan (style : Style) (s : List ℕ) (c : Span) : Type 0 where
  pub first_is : c.first ≡ list_place s (lists_before style) + list_opening_bytes (length (part c s))
  pub ordered : c.first ≤ c.end
  pub inside : c.end ≤ list_place s choice_lists
  pub shorter : length (part c s) < length s
  pub readable : Readable (part c s)
  pub tree : tree_of (part c s) ≡ taken style (list_in s 0) (list_in s 1) (list_in s 2) (list_in s 3)

-- the item at the head of s, which opens with o
pub record OpenedSeen (style : Style) (s : List ℕ) (o : Opening) (c : Sight) : Type 0 where
  pub bytes_is : c.bytes ≡ item_size s o
  pub class_is : neighbour_as c.class ≡ class_at style none (item_of s o)
  pub style_is : c.style ≡ style_behind style (item_of s o)

abbrev pub ItemSeen : Style → List ℕ → Sight → Type 0
ItemSeen style s c = OpenedSeen style s (opening_of s) c

pub record ItemsSeen (style : Style) (s : List ℕ) (c : Sight) : Type 0 where
  pub bytes_is : c.bytes ≡ length s
  pub class_is : neighbour_as c.class ≡ next_class style none (tree_of s)
  pub style_is : c.style ≡ style_after style (tree_of s)

abbrev pub SetsAlike : Style → Items → Neighbour → Neighbour → Type 0
SetsAlike style l beyond beyond' = (F : Font) (line : Line) → line.style ≡ style → set_items F beyond line l ≡ set_items F beyond' line l

-- two neighbours to the right that change an item's class alike, whatever stands to the left
abbrev pub ChangesAlike : Kind → Neighbour → Neighbour → Type 0
ChangesAlike kind right right' = (left : Neighbour) → changed_class left (class_of kind) right ≡ changed_class left (class_of kind) right'
