-- Every accepted formula's nodes can be written as the body of a page (request 14): a rule is as wide as a list or a symbol, which
-- answer 6 and the tables keep within the bound, and as thick as a word of a table; the sign of a root and the delimiters of a fence are
-- symbols of the tables.
--     FieldBoxFair, SignsFair, OwnFair     what is known of a field that is set, of the signs that are found, and of an item's own nodes
--     items_drawable                   of the nodes of a list whose lists fit
--     accepted_written                 of the nodes of an accepted formula, or of an accepted list between two sides
-- Assumes nothing.
use Rattle.std.specs.Prelude.{◌≡◌, Bool, ◌&&◌, List, ◌++◌, map, ℕ, ◌+◌, ◌≤◌, ℤ, pos, ◌+ℤ◌}
use Rattle.std.proofs.Math.Path.{refl}
use Rattle.std.proofs.Common.{sym, subst}
use Rattle.std.proofs.Math.Bool.{true, false}
use Rattle.std.proofs.Math.Option.{Option, none, some}
use native.Mathlib.Omega.{arith}
use Rattle.laws.specs.Truths.{both_true as both}
use Rattle.scaled.specs.Signed.{above, below, own, parts_add, parts_max}
use Rattle.words.specs.WordLaws.{Bytes}
use Rattle.font.specs.Font.{Font, font_with}
use Rattle.font.specs.Table.{good_table, good_client}
use Rattle.font.specs.FontLaws.{sound_tables}
use Rattle.font.specs.FairFont.{Held, Fair, fair_font}
use Rattle.formula.specs.declared.Bar.{Bar}
use Rattle.formula.specs.declared.Bar.TheVariants.{Default, Without}
use Rattle.formula.specs.declared.Base.{Base}
use Rattle.formula.specs.declared.Base.TheVariants.{Atom, Over, Under, Root, Fence}
use Rattle.formula.specs.declared.Class.{Class}
use Rattle.formula.specs.declared.Kind.{Kind}
use Rattle.formula.specs.declared.Kind.TheVariants.{Scripted, Fraction}
use Rattle.formula.specs.Heads.{is_op}
use Rattle.formula.specs.Reading.{Read, good, fault, read_formula}
use Rattle.formula.specs.Tree.{Items, Item, Field, nil, cons, noad, kern, restyle, choice, empty, symbol, list}
use Rattle.boxes.specs.declared.styles.Level.{Level}
use Rattle.boxes.specs.declared.styles.Level.TheVariants.{Display, Text, Script, Scriptscript}
use Rattle.boxes.specs.declared.styles.Style.{Style}
use Rattle.boxes.specs.Styles.{style_of, font_size}
use Rattle.boxes.specs.Parameters.{Parameters, axis_height, rule_thickness}
use Rattle.boxes.specs.Boxes.{Size, Shape, size_of, given, Offset, Rule, Own, no_own, ruled_behind}
use Rattle.delimiters.specs.Delimiters.{Sign, sign_size, sign_nodes, Signs}
use Rattle.delimiters.specs.FoundSigns.{IfThere}
use Rattle.roots.specs.Roots.{root}
use Rattle.fences.specs.Fences.{Fence as FenceParts, fence_of}
use Rattle.spacing.specs.Classes.{Neighbour, class_of, changed_class}
use Rattle.spacing.specs.Spacing.{space_before}
use Rattle.limits.specs.Limits.{has_limits}
use Rattle.fractions.specs.Fractions.{bar_thickness, has_bar, fraction}
use Rattle.arrange.specs.declared.Manner.{Manner}
use Rattle.arrange.specs.declared.Manner.TheVariants.{Plain}
use Rattle.arrange.specs.Arrange.{first_style, second_style, third_style, first_manner}
use Rattle.arrange_rules.specs.Arrange.{is_given, sets_limits, root_nucleus, fence_nucleus, nucleus_of, arrange}
use Rattle.arrange_rules.proofs.ArrangeLaws.{atom_own, set_own}
use Rattle.nodes.specs.Nodes.{moved, bytes_of}
use Rattle.nodes.specs.Bounds.{greatest_length, within}
use Rattle.nodes.specs.HullLaws.{within_true}
use Rattle.setting.specs.Setting.{Box, Line, Symbol, FieldBox, symbol_in, symbol_field_box, signs_in, moved_by, own_nodes, arranged_in, item_nodes, item_box, taken, style_behind, next_class, placed, Sides, sides_of, start, closed, is_enlarged, set_items, set_item, set_field, set_list}
use Rattle.setting.proofs.SettingLaws.{set_item_style}
use Rattle.setting.proofs.FoundSymbols.{SymbolThere, symbol_there, signs_there}
use Rattle.setting.specs.Missing.{missing_items}
use Rattle.setting.specs.Fitting.{size_fits, box_fits, items_fit, item_fits, field_fits, list_fits}
use Rattle.dvi.specs.declared.forms.Form.TheVariants.{Stored}
use Rattle.dvi.specs.Body.{body_of}
use Rattle.dvi.specs.ProfileLaws.{Extent}
use Rattle.results.specs.Results.{made}
use Rattle.dvi.specs.Answers.{result_of as page_of}
use Rattle.dvi.specs.SetNodes.{AllDrawable, stored_node, drawable_append, drawable_moved}
use Rattle.dvi.proofs.SetNodes.{set_written}
use Rattle.answers.specs.Lent.{Lent, enough}
use Rattle.answers.specs.Answers.{Result, boxed, refused, if_fits, if_present, if_read, if_enough, if_client, if_good, if_style, result_between}

-- ---- what is known of a field, of the signs that are found, and of an item's own nodes

-- no wider than the bound
abbrev Narrow : ℤ → Type 0
Narrow w = above w ≤ below w + greatest_length

record FieldBoxFair (x : FieldBox) : Type 0 where
  nodes_are : AllDrawable x.nodes
  narrow : Narrow (size_of x.shape).width

-- a sign, if one was found
abbrev SignFair : Option Sign → Type 0
SignFair none = Unit {0}
SignFair (some g) = Held g.size g.family g.code g.metrics

record SignsFair (signs : Signs) : Type 0 where
  before : SignFair signs.before
  behind : SignFair signs.behind

record OwnFair (o : Own) : Type 0 where
  before : AllDrawable (own_nodes o.before)
  behind : AllDrawable (own_nodes o.behind)

none_own : OwnFair no_own
unfolding own_nodes
none_own = record { before = tt; behind = tt }

rule_own : (r : Rule) → Narrow r.width → Extent r.thickness → OwnFair (ruled_behind r)
unfolding own_nodes
rule_own r narrow thick = record { before = tt; behind = ((narrow, thick), tt) }

-- where there is a bar
bar_fair : (t : Bool) (r : Rule) → Narrow r.width → Extent r.thickness → OwnFair (elim t [ true ↦ ruled_behind r | false ↦ no_own ])
bar_fair true r narrow thick = rule_own r narrow thick
bar_fair false r narrow thick = none_own

sign_fair : (place : Offset) (sign : Option Sign) → SignFair sign → AllDrawable (own_nodes (sign_nodes place sign))
unfolding own_nodes
sign_fair place none fair = tt
sign_fair place (some g) fair = ((fair.size_is, fair.family_is, fair.code_is), tt)

-- a root's rule is as wide as its nucleus and as thick as its sign is high
root_fair : (p : Parameters) (s : Style) (x : Size) (sign behind : Option Sign) → SignFair sign → Narrow x.width →
    OwnFair (root_nucleus (root p s x (sign_size sign)) record { before = sign; behind = behind }).own
unfolding root own_nodes
root_fair p s x none behind fair narrow =
    record { before = ((narrow, record { short = omega arith; up = omega arith }), tt); behind = tt }
root_fair p s x (some g) behind fair narrow =
    let high : Extent (pos g.metrics.height) = record { short = omega (arith, fair.height_is); up = omega arith } in
    record { before = ((fair.size_is, fair.family_is, fair.code_is), ((narrow, high), tt)); behind = tt }

fence_fair : (f : FenceParts) (signs : Signs) → SignsFair signs → OwnFair (fence_nucleus f signs).own
fence_fair f signs fair =
    record { before = sign_fair f.left signs.before fair.before; behind = sign_fair f.right signs.behind fair.behind }

module _ (F : Font) (fair : Fair F) where
  -- ---- a symbol

  module _ (size family : ℕ) where
    symbol_fair : (o : Option Symbol) → SymbolThere F size family o → FieldBoxFair (symbol_field_box size family o)
    unfolding symbol_field_box
    symbol_fair none there = record { nodes_are = tt; narrow = omega arith }
    symbol_fair (some y) there =
        let h = fair.held size family y.code y.metrics there in
        record {
          nodes_are = ((h.size_is, h.family_is, h.code_is), tt);
          narrow = omega (arith, parts_add (own (pos y.metrics.width)) (own (pos y.metrics.italic)), h.width_is, h.italic_is);
        }

  -- ---- an item's own nodes

  module _ (s : Style) where
    abbrev p : Parameters
    p = F.parameter

    thickness : Extent (rule_thickness p (font_size s))
    thickness = let l = fair.word_is (font_size s) 29 in record { short = omega arith; up = omega arith }

    bar_thickness_lem : (bar : Bar) → Extent (bar_thickness p (font_size s) bar)
    bar_thickness_lem Default = thickness
    bar_thickness_lem Without = record { short = omega arith; up = omega arith }

    there_fair : (sign : Option Sign) → IfThere F sign → SignFair sign
    there_fair none there = tt
    there_fair (some g) there = fair.held g.size g.family g.code g.metrics there

    signs_fair : (kind : Kind) (x : Shape) → SignsFair (signs_in F s kind x)
    signs_fair kind x =
        let signs = signs_in F s kind x in
        let there = signs_there F s kind x in
        record { before = there_fair signs.before there.before; behind = there_fair signs.behind there.behind }

    nucleus_fair : (base : Base) (signs : Signs) (subscript : Bool) (x : Shape) → SignsFair signs → Narrow (size_of x).width →
        OwnFair (nucleus_of p s base signs subscript x).own
    unfolding nucleus_of
    nucleus_fair (Atom class limits) signs subscript x found narrow =
        rw (atom_own (axis_height p (font_size s)) (is_op class) (has_limits s.level class limits) subscript x) none_own
    nucleus_fair Over signs subscript x found narrow = rule_own _ narrow thickness
    nucleus_fair Under signs subscript x found narrow = rule_own _ narrow thickness
    nucleus_fair (Root d) signs subscript x found narrow =
        root_fair p s (size_of x) signs.before signs.behind found.before narrow
    nucleus_fair (Fence left right) signs subscript x found narrow =
        fence_fair (fence_of p s (sign_size signs.before) (size_of x) (sign_size signs.behind)) signs found

    own_fair : (kind : Kind) (signs : Signs) (x y z : Shape) → SignsFair signs → Narrow (size_of x).width → Narrow (size_of y).width →
        OwnFair (arrange p s kind signs x y z).own
    unfolding arrange fraction
    own_fair (Scripted base) signs x y z found narrow-x narrow-y =
        let subscript = is_given (given z) in
        rw (set_own p s (sets_limits s base) (nucleus_of p s base signs subscript x) (given y) (given z))
        (nucleus_fair base signs subscript x found narrow-x)
    own_fair (Fraction bar) signs x y z found narrow-x narrow-y =
        bar_fair (has_bar (bar_thickness p (font_size s) bar)) _
        (omega (arith, parts_max (own (size_of x).width) (own (size_of y).width)))
        (bar_thickness_lem bar)

    -- ---- an item

    item_drawable : (kind : Kind) (x y z : FieldBox) → FieldBoxFair x → FieldBoxFair y → FieldBoxFair z → AllDrawable (item_box F s kind x y z).nodes
    unfolding item_box item_nodes
    item_drawable kind x y z fx fy fz =
        let a = arranged_in F s kind x.shape y.shape z.shape in
        let signs = signs_in F s kind x.shape in
        let o = own_fair kind signs x.shape y.shape z.shape (signs_fair kind x.shape) fx.narrow fy.narrow in
        let before = own_nodes a.own.before in
        let first = moved_by a.first x.nodes in
        let behind = own_nodes a.own.behind in
        let second = moved_by a.second y.nodes in
        let third = moved_by a.third z.nodes in
        drawable_append (before ++ first ++ behind ++ second) third
        (drawable_append (before ++ first ++ behind) second
        (drawable_append (before ++ first) behind
        (drawable_append before first o.before (drawable_moved a.first.across a.first.up x.nodes fx.nodes_are))
        o.behind)
        (drawable_moved a.second.across a.second.up y.nodes fy.nodes_are))
        (drawable_moved a.third.across a.third.up z.nodes fz.nodes_are)

  -- ---- lists

  abbrev Drawn : Line → Type 0
  Drawn line = AllDrawable line.box.nodes

  placed_drawable : (right : Neighbour) (line : Line) (class : Class) (b : Box) → Drawn line → AllDrawable b.nodes → Drawn (placed F right line class b)
  unfolding placed
  placed_drawable right line class b d e =
      let c = changed_class line.left class right in
      let x = line.box.size.width +ℤ space_before F.parameter line.style line.left c in
      drawable_append line.box.nodes (moved x (pos 0) b.nodes) d (drawable_moved x (pos 0) b.nodes e)

  closed_drawable : (s : Style) (right : Neighbour) (line : Line) → Drawn line → AllDrawable (closed F s right line).nodes
  closed_drawable s none line d = d
  closed_drawable s (some class) line d = d

  list_closed : (sides : Sides) (s : Style) (l : Items) → Drawn (set_items F sides.right (start sides.left s) l) →
      AllDrawable (set_list F sides s l).nodes
  unfolding set_list
  list_closed sides s l d = closed_drawable s sides.right _ d

  box_narrow : (b : Box) → box_fits b ≡ true → Narrow b.size.width
  unfolding box_fits
  box_narrow b t =
      let z = b.size in
      let sizes = both {p = size_fits z} t in
      let two = both {p = within z.width && within z.height} sizes.0 in
      let w = within_true z.width (both {p = within z.width} two.0).0 in
      omega arith

  -- of a choice, the taken list's test is made and its line goes on
  taken_drawn : (s : Style) {f g h k : Bool} (a b c e : Line) → (f ≡ true → Drawn a) → (g ≡ true → Drawn b) → (h ≡ true → Drawn c) →
      (k ≡ true → Drawn e) → taken s f g h k ≡ true → Drawn (taken s a b c e)
  taken_drawn s {f} {g} {h} {k} a b c e p q r u = go s.level
    where
      go : (level : Level) → elim level [ Display ↦ f | Text ↦ g | Script ↦ h | Scriptscript ↦ k ] ≡ true →
          Drawn (elim level [ Display ↦ a | Text ↦ b | Script ↦ c | Scriptscript ↦ e ])
      go Display = p
      go Text = q
      go Script = r
      go Scriptscript = u

  mutual
    unfolding set_items set_item set_field set_list items_fit item_fits field_fits

    pub items_drawable : (l : Items) (beyond : Neighbour) (line : Line) → items_fit F line.style l ≡ true → AllDrawable line.box.nodes →
        AllDrawable (set_items F beyond line l).box.nodes
    items_drawable nil beyond line t d = d
    items_drawable (cons i r) beyond line t d =
        let fits = both {p = item_fits F line.style i} t in
        let right = next_class (style_behind line.style i) beyond r in
        items_drawable r beyond (set_item F right line i)
        (subst (λ (s : Style). items_fit F s r ≡ true) (sym (set_item_style F right line i)) fits.1)
        (item_set_lem i right line fits.0 d)

    item_set_lem : (i : Item) (right : Neighbour) (line : Line) → item_fits F line.style i ≡ true → AllDrawable line.box.nodes →
        AllDrawable (set_item F right line i).box.nodes
    item_set_lem (noad kind x y z) right line t d =
        let s = line.style in
        let fits = both {q = field_fits F (third_style s) Plain z} t in
        let two = both {p = field_fits F (first_style kind s) (first_manner kind s) x} fits.0 in
        placed_drawable right line (class_of kind) _ d
        (item_drawable s kind
        (set_field F (first_style kind s) (first_manner kind s) x)
        (set_field F (second_style kind s) Plain y)
        (set_field F (third_style s) Plain z)
        (field_fair x (first_style kind s) (first_manner kind s) two.0)
        (field_fair y (second_style kind s) Plain two.1)
        (field_fair z (third_style s) Plain fits.1))
    item_set_lem (kern n) right line t d = d
    item_set_lem (restyle number) right line t d = d
    item_set_lem (choice a b c e) right line t d =
        taken_drawn line.style (set_items F right line a) (set_items F right line b) (set_items F right line c) (set_items F right line e)
        (λ u. items_drawable a right line u d)
        (λ u. items_drawable b right line u d)
        (λ u. items_drawable c right line u d)
        (λ u. items_drawable e right line u d)
        t

    field_fair : (f : Field) (s : Style) (manner : Manner) → field_fits F s manner f ≡ true → FieldBoxFair (set_field F s manner f)
    field_fair empty s manner t = record { nodes_are = tt; narrow = omega arith }
    field_fair (symbol family code) s manner t =
        let enlarge = is_enlarged manner in
        symbol_fair (font_size s) family (symbol_in F (font_size s) enlarge family code) (symbol_there F (font_size s) family enlarge code)
    field_fair (list l) s manner t =
        let sides = sides_of manner in
        let fits = both {p = box_fits (set_list F sides s l)} t in
        record {
          nodes_are = list_closed sides s l (items_drawable l sides.right (start sides.left s) fits.1 tt);
          narrow = box_narrow (set_list F sides s l) fits.0;
        }

  pub list_drawable : (l : Items) (sides : Sides) (s : Style) → items_fit F s l ≡ true → AllDrawable (set_list F sides s l).nodes
  list_drawable l sides s t = list_closed sides s l (items_drawable l sides.right (start sides.left s) t tt)

-- ---- an accepted formula

abbrev Written : Result → Type 0
Written (boxed b) = page_of Stored (bytes_of b.nodes) ≡ made (body_of (map stored_node b.nodes))
Written (refused number place) = Unit {0}

module _ (F : Font) (fair : Fair F) (sides : Sides) (s : Style) where
  fits_written : (l : Items) (t : Bool) → list_fits F sides s l ≡ t → Written (if_fits t (set_list F sides s l))
  unfolding if_fits list_fits box_fits
  fits_written l true e =
      let b = set_list F sides s l in
      let fits = both {p = box_fits b} e in
      let nodes = both {p = size_fits b.size} fits.0 in
      set_written b.nodes nodes.1 (list_drawable F fair l sides s fits.1)
  fits_written l false e = tt

  read_written : (r : Read) → Written (if_read F sides s r)
  unfolding if_read if_present
  read_written (good l) = go (missing_items F s l)
    where
      go : (o : Option ℕ) → Written (if_present F sides s l o)
      go none = fits_written l (list_fits F sides s l) refl
      go (some place) = tt
  read_written (fault why place) = tt

pub accepted_written : (sides : Sides) (style : ℕ) (table client : List ℕ) (lent : Lent) (formula : List ℕ) → Bytes table → Bytes client →
    Written (result_between sides style table client lent formula)
unfolding result_between if_style if_good if_client if_enough
accepted_written sides style table client lent formula byte byte-client = styled (style_of style)
  where
    tabled : (s : Style) (t c w : Bool) → good_table table ≡ t → good_client table client ≡ c →
        Written (if_good t c w (font_with table client) sides s (read_formula formula))
    tabled s true true true e f =
        let tables = sound_tables table client e f in
        read_written (font_with table client) (fair_font table client tables byte byte-client) sides s (read_formula formula)
    tabled s true true false e f = tt
    tabled s true false w e f = tt
    tabled s false c w e f = tt

    styled : (o : Option Style) → Written (if_style sides table client lent (read_formula formula) o)
    styled none = tt
    styled (some s) = tabled s (good_table table) (good_client table client) (enough lent) refl refl
