-- What an item keeps clear on the page (request 12), of nodes as they are finally placed. `reference` is the item's reference point on the page.
--     ItemClear        of an item with scripts that are no limits: all ink of the superscript starts four rules above where any of the subscript ends.
--                      Of a fraction: φ is free from its bar's top up to all ink of the numerator, and from its lower edge down to all ink of the
--                      denominator; its middle is within half a scaled point of the axis; without a bar φ is free between the parts
--     item_clear       every item of a formed formula does, wherever it stands
-- The parameters are those of the item's size, and the claims are of nodes: a part without any is claimed nothing of.
-- Assumes nothing.
use Rattle.std.specs.Prelude.{◌≡◌, Bool, true, false, List, [], ◌∷◌, ℤ, pos, neg_ℤ, ◌+ℤ◌, ◌-ℤ◌, ◌*ℤ◌, ◌≤ℤ◌}
use Rattle.std.proofs.Math.Path.{refl}
use Rattle.std.proofs.Math.Option.{none, some}
use Rattle.std.proofs.Common.{arith}
use Rattle.std.specs.Int.Signed.{≤ℤ_refl}
use Rattle.scaled.specs.Length.{max_ℤ}
use Rattle.scaled.specs.Signed.{le_parts}
use Rattle.scaled.specs.Linear.{#, ◌⊕◌, ◌⊖◌, neg}
use Rattle.scaled.proofs.Linear.{sound, le_by}
use Rattle.font.specs.Font.{Font}
use Rattle.formula.specs.declared.Kind.{Kind}
use Rattle.formula.specs.declared.Kind.TheVariants.{Scripted, Fraction}
use Rattle.boxes.specs.declared.styles.Style.{Style}
use Rattle.boxes.specs.Styles.{font_size}
use Rattle.boxes.specs.Parameters.{Parameters, axis_height, rule_thickness}
use Rattle.boxes.specs.Boxes.{Size, Shape, nothing, char, box, char_size, size_of, given, Offset, null_delimiter_width, Shifts, no_own, ruled_behind, Arranged}
use Rattle.delimiters.specs.Delimiters.{Signs}
use Rattle.nucleus.specs.Nucleus.{Nucleus}
use Rattle.scripts.specs.Scripts.{pair_shifts, scripted}
use Rattle.scripts.proofs.ClearanceLaws.{pair_gap}
use Rattle.fractions.specs.Fractions.{bar_thickness, has_bar, stacked, final_shifts, fraction}
use Rattle.fractions.specs.ClearanceLaws.{Centred, bar_centred, bar_low, bar_rule, from_bar, between_parts, PartsClear}
use Rattle.fractions.proofs.ClearanceLaws.{parts_clear}
use Rattle.arrange.specs.declared.Manner.TheVariants.{Plain}
use Rattle.arrange_rules.specs.Arrange.{is_given, sets_limits, nucleus_of, set_scripts, arrange}
use Rattle.arrange.specs.Arrange.{first_style, second_style, third_style, first_manner}
use Rattle.nodes.specs.Nodes.{Node, rule, moved}
use Rattle.setting.specs.Setting.{FieldBox, moved_by, own_nodes}
use Rattle.setting.specs.Frames.{further}
use Rattle.setting.specs.Picked.{Picked, picked_item, picked_first, picked_second, picked_third, picked_signs, picked_arranged}
use Rattle.setting.proofs.Formed.{FormedItem}
use Rattle.setting.specs.Ink.{ink_of, Every, InkBetween, Clear}
use Rattle.setting.proofs.InkLaws.{clear_by, clear_none}
use Rattle.setting.proofs.BoxInk.{ShapeInk, FieldInk, shape_span, field_ink}

-- ---- what is claimed of an item that is arranged so

module _ (F : Font) (s : Style) (reference : Offset) (a : Arranged) where
  -- the nodes of its fields where they stand on the page
  abbrev pub first_there : List Node → List Node
  first_there ns = moved_by (further reference a.first) ns

  abbrev pub second_there : List Node → List Node
  second_there ns = moved_by (further reference a.second) ns

  abbrev pub third_there : List Node → List Node
  third_there ns = moved_by (further reference a.third) ns

  -- its own nodes behind its first field: a fraction's bar
  abbrev pub bar_there : List Node
  bar_there = moved_by reference (own_nodes a.own.behind)

  -- the axis on the page
  abbrev pub axis_there : ℤ
  axis_there = reference.up +ℤ axis_height F.parameter (font_size s)

  -- of limits nothing is claimed
  abbrev pub ScriptsClear : Bool → List Node → List Node → Type 0
  ScriptsClear true ys zs = Unit {0}
  ScriptsClear false ys zs = Clear F (rule_thickness F.parameter (font_size s) *ℤ pos 4) (second_there ys) (third_there zs)

  -- the bar is one rule, of the thickness θ
  pub record BarClear (θ : ℤ) (xs ys : List Node) : Type 0 where
    pub left : ℤ
    pub low : ℤ
    pub width : ℤ
    pub bar_is : bar_there ≡ rule left low width θ ∷ []
    pub over : Clear F (from_bar s θ) (first_there xs) bar_there
    pub under : Clear F (from_bar s θ) bar_there (second_there ys)
    pub middle : Centred axis_there low (low +ℤ θ)

  abbrev pub FractionClear : ℤ → Bool → List Node → List Node → Type 0
  FractionClear θ true xs ys = BarClear θ xs ys
  FractionClear θ false xs ys = Clear F (between_parts F.parameter s) (first_there xs) (second_there ys)

  -- by whether its scripts are limits, and whether it has a bar
  abbrev pub KindClear : Kind → List Node → List Node → List Node → Type 0
  KindClear (Scripted base) xs ys zs = ScriptsClear (sets_limits s base) ys zs
  KindClear (Fraction bar) xs ys zs =
      let θ = bar_thickness F.parameter (font_size s) bar in
      FractionClear θ (has_bar θ) xs ys

abbrev pub ItemClear : Font → Picked → Offset → Type 0
ItemClear F q reference =
    KindClear F q.style reference (picked_arranged F q) q.kind (picked_first F q).nodes (picked_second F q).nodes (picked_third F q).nodes

-- ---- two fields that stand apart

module _ (F : Font) where
  shapes_apart : (gap : ℤ) (y z : Shape) (dx up ex down : ℤ) (ys zs : List Node) →
      (((size_of z).height +ℤ down) +ℤ gap) ≤ℤ (up -ℤ (size_of y).depth) → ShapeInk F y ys → ShapeInk F z zs →
      Clear F gap (moved dx up ys) (moved ex down zs)
  shapes_apart gap y z dx up ex down ys zs apart h k =
      clear_by F gap (up -ℤ (size_of y).depth) ((size_of y).height +ℤ up) (down -ℤ (size_of z).depth) ((size_of z).height +ℤ down) apart (moved dx up ys) (moved ex down zs)
      (shape_span F y dx up ys h)
      (shape_span F z ex down zs k)

-- ---- scripts

module _ (F : Font) (s : Style) (reference : Offset) where
  abbrev p : Parameters
  p = F.parameter

  abbrev r : ℤ
  r = reference.up

  abbrev four : ℤ
  four = rule_thickness p (font_size s) *ℤ pos 4

  scripts_apart : (a : Arranged) (y z : Shape) (ys zs : List Node) →
      (((size_of z).height +ℤ (a.third.up +ℤ r)) +ℤ four) ≤ℤ ((a.second.up +ℤ r) -ℤ (size_of y).depth) → ShapeInk F y ys → ShapeInk F z zs →
      ScriptsClear F s reference a false ys zs
  scripts_apart a y z ys zs apart h k =
      let x = reference.across in
      shapes_apart F four y z (a.second.across +ℤ x) (a.second.up +ℤ r) (a.third.across +ℤ x) (a.third.up +ℤ r) ys zs apart h k

  module _ (n : Nucleus) where
    pair_apart : (y z : Size) →
        let a = scripted p s n (some y) (some z) in
        ((z.height +ℤ (a.third.up +ℤ r)) +ℤ four) ≤ℤ ((a.second.up +ℤ r) -ℤ y.depth)
    unfolding scripted
    pair_apart y z =
        let t = pair_shifts p s n y z in
        let free = le_parts (pair_gap p s n y z) in
        let between = sound ((# t.up ⊖ # y.depth) ⊖ (# z.height ⊖ # t.down)) ((tt, tt), (tt, tt)) in
        le_by ((# z.height ⊕ (neg (# t.down) ⊕ # r)) ⊕ # four) ((# t.up ⊕ # r) ⊖ # y.depth) (omega (arith, free, between))

    shapes_clear : (y z : Shape) (ys zs : List Node) → ShapeInk F y ys → ShapeInk F z zs →
        ScriptsClear F s reference (scripted p s n (given y) (given z)) false ys zs
    unfolding moved
    shapes_clear nothing z ys zs h k = rw h tt
    shapes_clear (char m) nothing ys zs h k = rw k (clear_none F four (second_there F s reference (scripted p s n (some (char_size m)) none) ys))
    shapes_clear (char m) (char o) ys zs h k = scripts_apart (scripted p s n (some (char_size m)) (some (char_size o))) (char m) (char o) ys zs (pair_apart (char_size m) (char_size o)) h k
    shapes_clear (char m) (box z) ys zs h k = scripts_apart (scripted p s n (some (char_size m)) (some z)) (char m) (box z) ys zs (pair_apart (char_size m) z) h k
    shapes_clear (box y) nothing ys zs h k = rw k (clear_none F four (second_there F s reference (scripted p s n (some y) none) ys))
    shapes_clear (box y) (char o) ys zs h k = scripts_apart (scripted p s n (some y) (some (char_size o))) (box y) (char o) ys zs (pair_apart y (char_size o)) h k
    shapes_clear (box y) (box z) ys zs h k = scripts_apart (scripted p s n (some y) (some z)) (box y) (box z) ys zs (pair_apart y z) h k

    scripts_clear : (limits : Bool) (y z : FieldBox) → FieldInk F y → FieldInk F z →
        ScriptsClear F s reference (set_scripts p s limits n (given y.shape) (given z.shape)) limits y.nodes z.nodes
    scripts_clear true y z h k = tt
    scripts_clear false y z h k = shapes_clear y.shape z.shape y.nodes z.nodes h.ink k.ink

-- ---- fractions

module _ (F : Font) (s : Style) (reference : Offset) (θ : ℤ) (x y : FieldBox) (hx : FieldInk F x) (hy : FieldInk F y) where
  abbrev X : Size
  X = size_of x.shape

  abbrev Y : Size
  Y = size_of y.shape

  abbrev axis : ℤ
  axis = axis_height F.parameter (font_size s)

  abbrev w : ℤ
  w = max_ℤ X.width Y.width

  abbrev up : ℤ
  up = reference.up

  -- with the bar if there is one
  abbrev arranged_by : Bool → Shifts → Arranged
  arranged_by bar t = stacked X Y w t (elim bar [ true ↦ ruled_behind (bar_rule axis θ w) | false ↦ no_own ])

  bar_there_lem : (t : Shifts) →
      bar_there F s reference (arranged_by true t) ≡ rule (null_delimiter_width +ℤ reference.across) (bar_low axis θ +ℤ up) w θ ∷ []
  unfolding own_nodes moved
  bar_there_lem t = refl

  bar_span : (t : Shifts) → Every (InkBetween F (bar_low axis θ +ℤ up) ((bar_low axis θ +ℤ up) +ℤ θ)) (bar_there F s reference (arranged_by true t))
  unfolding own_nodes moved ink_of
  bar_span t = (record { lower = ≤ℤ_refl _; upper = ≤ℤ_refl _ }, tt)

  -- its middle on the page
  bar_middle : Centred (up +ℤ axis) (bar_low axis θ +ℤ up) ((bar_low axis θ +ℤ up) +ℤ θ)
  bar_middle =
      let low = bar_low axis θ in
      let c = bar_centred axis θ in
      let over = le_parts c.over in
      let under = le_parts c.under in
      let twice = sound (# axis ⊕ # axis) (tt, tt) in
      let more = sound ((# axis ⊕ # axis) ⊕ # (pos 1)) ((tt, tt), tt) in
      let edges = sound (# low ⊕ (# low ⊕ # θ)) (tt, (tt, tt)) in
      let line = # up ⊕ # axis in
      let bar = (# low ⊕ # up) ⊕ ((# low ⊕ # up) ⊕ # θ) in
      record {
        over = le_by (line ⊕ line) bar (omega (arith, over, twice, edges));
        under = le_by bar ((line ⊕ line) ⊕ # (pos 1)) (omega (arith, under, more, edges));
      }

  fraction_by : (bar : Bool) (t : Shifts) → PartsClear F.parameter s θ X Y bar t →
      FractionClear F s reference (arranged_by bar t) θ bar x.nodes y.nodes
  fraction_by true t clear =
      let a = arranged_by true t in
      let φ = from_bar s θ in
      let low = bar_low axis θ in
      let u = t.up +ℤ up in
      let d = neg_ℤ t.down +ℤ up in
      let over = le_parts clear.over in
      let under = le_parts clear.under in
      let free-over = sound ((# t.up ⊖ # X.depth) ⊖ (# low ⊕ # θ)) ((tt, tt), (tt, tt)) in
      let free-under = sound (# low ⊖ (# Y.height ⊖ # t.down)) (tt, (tt, tt)) in
      let above-it : (((low +ℤ up) +ℤ θ) +ℤ φ) ≤ℤ (u -ℤ X.depth) =
      le_by (((# low ⊕ # up) ⊕ # θ) ⊕ # φ) ((# t.up ⊕ # up) ⊖ # X.depth) (omega (arith, over, free-over)) in
      let below-it : ((Y.height +ℤ d) +ℤ φ) ≤ℤ (low +ℤ up) =
      le_by ((# Y.height ⊕ (neg (# t.down) ⊕ # up)) ⊕ # φ) (# low ⊕ # up) (omega (arith, under, free-under)) in
      record {
        left = null_delimiter_width +ℤ reference.across;
        low = low +ℤ up;
        width = w;
        bar_is = bar_there_lem t;
        over =
            clear_by F φ (u -ℤ X.depth) (X.height +ℤ u) (low +ℤ up) ((low +ℤ up) +ℤ θ) above-it
            (first_there F s reference a x.nodes) (bar_there F s reference a)
            (shape_span F x.shape (a.first.across +ℤ reference.across) u x.nodes hx.ink) (bar_span t);
        under =
            clear_by F φ (low +ℤ up) ((low +ℤ up) +ℤ θ) (d -ℤ Y.depth) (Y.height +ℤ d) below-it
            (bar_there F s reference a) (second_there F s reference a y.nodes)
            (bar_span t) (shape_span F y.shape (a.second.across +ℤ reference.across) d y.nodes hy.ink);
        middle = bar_middle;
      }
  fraction_by false t clear =
      let a = arranged_by false t in
      let φ = between_parts F.parameter s in
      let free = le_parts clear in
      let between = sound ((# t.up ⊖ # X.depth) ⊖ (# Y.height ⊖ # t.down)) ((tt, tt), (tt, tt)) in
      let apart : ((Y.height +ℤ (neg_ℤ t.down +ℤ up)) +ℤ φ) ≤ℤ ((t.up +ℤ up) -ℤ X.depth) =
      le_by ((# Y.height ⊕ (neg (# t.down) ⊕ # up)) ⊕ # φ) ((# t.up ⊕ # up) ⊖ # X.depth) (omega (arith, free, between)) in
      shapes_apart F φ x.shape y.shape (a.first.across +ℤ reference.across) (t.up +ℤ up) (a.second.across +ℤ reference.across) (neg_ℤ t.down +ℤ up) x.nodes y.nodes apart hx.ink hy.ink

-- ---- any item

kind_clear : (F : Font) (s : Style) (reference : Offset) (kind : Kind) (signs : Signs) (x y z : FieldBox) → FieldInk F x → FieldInk F y → FieldInk F z →
    KindClear F s reference (arrange F.parameter s kind signs x.shape y.shape z.shape) kind x.nodes y.nodes z.nodes
unfolding arrange fraction
kind_clear F s reference (Scripted base) signs x y z hx hy hz =
    scripts_clear F s reference (nucleus_of F.parameter s base signs (is_given (given z.shape)) x.shape) (sets_limits s base) y z hy hz
kind_clear F s reference (Fraction bar) signs x y z hx hy hz =
    let p = F.parameter in
    let θ = bar_thickness p (font_size s) bar in
    fraction_by F s reference θ x y hx hy (has_bar θ) (final_shifts p s θ (size_of x.shape) (size_of y.shape)) (parts_clear p s θ (size_of x.shape) (size_of y.shape))

pub item_clear : (F : Font) (q : Picked) (reference : Offset) → FormedItem (picked_item q) → ItemClear F q reference
unfolding FormedItem
item_clear F q reference f =
    let s = q.style in
    kind_clear F s reference q.kind (picked_signs F q) (picked_first F q) (picked_second F q) (picked_third F q)
    (field_ink F q.first f.0 (first_style q.kind s) (first_manner q.kind s))
    (field_ink F q.second f.1 (second_style q.kind s) Plain)
    (field_ink F q.third f.2 (third_style s) Plain)
