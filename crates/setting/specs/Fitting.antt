-- Whether a list, and every list in it, keeps within the greatest length (document 01, answer 6): its size, and its nodes
-- as measured from its own reference point. A node so comes to be measured from the reference point of each list around it.
-- The list of a fence has its space before the Close in its size. A choice's lists have no box: within the one taken, its list fields are tested. The style is that current at each item.
-- Assumes nothing.
use Rattle.std.specs.Prelude.{Bool, true, ◌&&◌}
use Rattle.font.specs.Font.{Font}
use Rattle.formula.specs.Tree.{Items, Item, Field, nil, cons, noad, kern, restyle, choice, empty, symbol, list}
use Rattle.boxes.specs.declared.styles.Style.{Style}
use Rattle.boxes.specs.Boxes.{Size}
use Rattle.arrange.specs.declared.Manner.{Manner}
use Rattle.arrange.specs.declared.Manner.TheVariants.{Plain}
use Rattle.arrange.specs.Arrange.{first_style, second_style, third_style, first_manner}
use Rattle.nodes.specs.Bounds.{within, nodes_fit}
use Rattle.setting.specs.Setting.{Box, Sides, sides_of, taken, style_behind, set_list}

abbrev pub size_fits : Size → Bool
size_fits z = within z.width && within z.height && within z.depth

unfoldable pub box_fits : Box → Bool
box_fits b = size_fits b.size && nodes_fit b.nodes

unfoldable mutual
  -- the lists within items
  pub items_fit : Font → Style → Items → Bool
  items_fit F s nil = true
  items_fit F s (cons i r) = item_fits F s i && items_fit F (style_behind s i) r

  pub item_fits : Font → Style → Item → Bool
  item_fits F s (noad kind x y z) =
      field_fits F (first_style kind s) (first_manner kind s) x
      && field_fits F (second_style kind s) Plain y
      && field_fits F (third_style s) Plain z
  item_fits F s (kern n) = true
  item_fits F s (restyle number) = true
  item_fits F s (choice d t sc ss) = taken s (items_fit F s d) (items_fit F s t) (items_fit F s sc) (items_fit F s ss)

  pub field_fits : Font → Style → Manner → Field → Bool
  field_fits F s manner empty = true
  field_fits F s manner (symbol family code) = true
  field_fits F s manner (list l) = box_fits (set_list F (sides_of manner) s l) && items_fit F s l

unfoldable pub list_fits : Font → Sides → Style → Items → Bool
list_fits F sides s l = box_fits (set_list F sides s l) && items_fit F s l
