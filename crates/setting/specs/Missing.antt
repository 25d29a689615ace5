-- The first symbol in reading order that the font lacks at the size it is set in (document 01, answer 5).
-- Its place is its field's kind byte. As in the reading, a place within a list counts from the list's first byte, and a place
-- within an item from the item's. The fields of an item stand behind its opening bytes, one behind the other; so do a choice's
-- lists, of which only the one taken is looked into. The style is that current at each item.
-- Assumes nothing.
use Rattle.std.proofs.Math.Option.{Option, none, some}
use Rattle.std.specs.Prelude.{ℕ, ◌+◌}
use Rattle.font.specs.Font.{Font}
use Rattle.formula.specs.Tree.{Items, Item, Field, nil, cons, noad, kern, restyle, choice, empty, symbol, list, opening_bytes, list_opening_bytes, items_bytes, item_bytes}
use Rattle.formula.specs.Places.{second_field, third_field}
use Rattle.boxes.specs.declared.styles.Style.{Style}
use Rattle.boxes.specs.Styles.{font_size}
use Rattle.arrange.specs.declared.Manner.{Manner}
use Rattle.arrange.specs.declared.Manner.TheVariants.{Plain}
use Rattle.arrange.specs.Arrange.{first_style, second_style, third_style, first_manner}
use Rattle.setting.specs.Setting.{Symbol, symbol_in, is_enlarged, taken, style_behind, taken_start}

-- the earlier of two places, where the first stands earlier in the formula
abbrev pub ◌or_else◌ : Option ℕ → Option ℕ → Option ℕ
◌or_else◌ (some place) later = some place
◌or_else◌ none later = later

infixr 20 ◌or_else◌
-- the same place counted from a byte that stands `at` bytes before
unfoldable pub later : ℕ → Option ℕ → Option ℕ
later at none = none
later at (some place) = some (at + place)

unfoldable pub absent_at : ℕ → Option Symbol → Option ℕ
absent_at at none = some at
absent_at at (some s) = none

unfoldable mutual
  pub missing_items : Font → Style → Items → Option ℕ
  missing_items F s nil = none
  missing_items F s (cons i r) = missing_item F s i or_else later (item_bytes i) (missing_items F (style_behind s i) r)

  pub missing_item : Font → Style → Item → Option ℕ
  missing_item F s (noad kind x y z) =
      missing_field F (first_style kind s) (first_manner kind s) (opening_bytes kind) x
      or_else missing_field F (second_style kind s) Plain (second_field kind x) y
      or_else missing_field F (third_style s) Plain (third_field kind x y) z
  missing_item F s (kern n) = none
  missing_item F s (restyle number) = none
  missing_item F s (choice d t sc ss) =
      later (taken_start s d t sc ss)
      (taken s (missing_items F s d) (missing_items F s t) (missing_items F s sc) (missing_items F s ss))

  -- a field whose kind byte stands at a place of its item
  pub missing_field : Font → Style → Manner → ℕ → Field → Option ℕ
  missing_field F s manner at empty = none
  missing_field F s manner at (symbol family code) = absent_at at (symbol_in F (font_size s) (is_enlarged manner) family code)
  missing_field F s manner at (list l) = later (at + list_opening_bytes (items_bytes l)) (missing_items F s l)
