-- A box holds the ink of all in it (request 12): of an item as of a list, at any depth. No rule lets anything stand out, since each item holds its fields and its
-- own nodes (`arranged_holds`), and a list its items.
--     FieldInk, BoxInk     a field, and a box, that holds the ink of its nodes, and is upright
--     item_ink             the box of an item whose fields do
--     list_ink, field_ink  every list that is set, between any sides and in any style, and every field
-- Assumes nothing.
use Rattle.std.specs.Prelude.{◌≡◌, ℕ, ℤ, pos, neg_ℤ, ◌+ℤ◌, ◌-ℤ◌}
use Rattle.std.proofs.Math.Path.{refl}
use mathlib.Core.List.{List, [], ◌∷◌, ◌++◌}
use Rattle.std.proofs.Math.Option.{Option, none, some}
use Rattle.std.proofs.Common.{arith}
use Rattle.scaled.specs.Linear.{#, ◌⊕◌, ◌⊖◌, neg, greatest}
use Rattle.scaled.proofs.Linear.{sound, le_by}
use Rattle.font.specs.Font.{Font, Metrics}
use Rattle.formula.specs.declared.Class.{Class}
use Rattle.formula.specs.declared.Kind.{Kind}
use Rattle.formula.specs.declared.Kind.TheVariants.{Scripted, Fraction}
use Rattle.formula.specs.Tree.{Items, Item, Field, nil, cons, noad, kern, restyle, choice, empty, symbol, list}
use Rattle.boxes.specs.declared.styles.Level.{Level}
use Rattle.boxes.specs.declared.styles.Level.TheVariants.{Display, Text, Script, Scriptscript}
use Rattle.boxes.specs.declared.styles.Style.{Style}
use Rattle.boxes.specs.Styles.{font_size}
use Rattle.boxes.specs.Boxes.{Size, Shape, nothing, char, box, char_size, size_of, OwnNode, ruled, signed, Rule}
use Rattle.boxes.specs.Holding.{Upright, upright_within, Holds, rule_size, AllHeld}
use Rattle.spacing.specs.Classes.{Neighbour, class_of}
use Rattle.arrange.specs.declared.Manner.{Manner}
use Rattle.arrange.specs.declared.Manner.TheVariants.{Plain}
use Rattle.arrange.specs.Arrange.{first_style, second_style, third_style, first_manner}
use Rattle.arrange_rules.specs.HoldingLaws.{ShapeHeld, NoThird}
use Rattle.arrange_rules.proofs.HoldingLaws.{arranged_holds}
use Rattle.nodes.specs.Nodes.{Node, moved}
use Rattle.setting.specs.Setting.{Box, FieldBox, Symbol, symbol_in, symbol_field_box, signs_in, moved_by, own_node, own_nodes, arranged_in, item_nodes, item_box, taken, style_behind, next_class, Line, beside, placed, Sides, sides_of, start, closed, is_enlarged, set_items, set_item, set_field, set_list}
use Rattle.setting.proofs.FoundSymbols.{SymbolThere, symbol_there, signs_there}
use Rattle.setting.proofs.Formed.{Formed, FormedItem, FormedField, ThirdFormed}
use Rattle.setting.specs.Ink.{glyph_ink, ink_of, Inked, Every, Between, InkBetween, InkIn}
use Rattle.setting.proofs.InkLaws.{every_append, held_ink, held_there, span_moved}

module _ (F : Font) where
  -- a field that is nothing has no nodes
  abbrev pub ShapeInk : Shape → List Node → Type 0
  ShapeInk nothing ns = ns ≡ []
  ShapeInk (char m) ns = InkIn F (char_size m) ns
  ShapeInk (box z) ns = InkIn F z ns

  pub record FieldInk (x : FieldBox) : Type 0 where
    pub upright : Upright (size_of x.shape)
    pub ink : ShapeInk x.shape x.nodes

  pub record BoxInk (b : Box) : Type 0 where
    pub upright : Upright b.size
    pub ink : InkIn F b.size b.nodes

  -- ---- a field that is moved

  shape_held : (x : Shape) (w : Size) (across up : ℤ) (ns : List Node) → ShapeInk x ns → ShapeHeld w x up → InkIn F w (moved across up ns)
  unfolding moved
  shape_held nothing w across up ns h held = rw h tt
  shape_held (char m) w across up ns h held = held_ink F across ns held h
  shape_held (box z) w across up ns h held = held_ink F across ns held h

  pub shape_span : (x : Shape) (across up : ℤ) (ns : List Node) → ShapeInk x ns →
      Every (InkBetween F (up -ℤ (size_of x).depth) ((size_of x).height +ℤ up)) (moved across up ns)
  unfolding moved
  shape_span nothing across up ns h = rw h tt
  shape_span (char m) across up ns h = span_moved F (char_size m) across up ns h
  shape_span (box z) across up ns h = span_moved F z across up ns h

  -- ---- a symbol, and an item's own nodes

  -- a symbol m that stands up from the baseline
  glyph_lies : (w : Size) (m : Metrics) (up : ℤ) → Holds w (char_size m) up → Inked (Between (neg_ℤ w.depth) w.height) (glyph_ink up (some m))
  glyph_lies w m up h =
      record {
        lower = le_by (neg (# w.depth)) (# up ⊖ # (pos m.depth)) (omega (arith, h.bottom));
        upper = le_by (# up ⊕ # (pos m.height)) (# w.height) (omega (arith, h.top));
      }

  -- the font has it
  symbol_lies : (w : Size) (o : Option Metrics) {m : Metrics} (up : ℤ) → o ≡ some m → Holds w (char_size m) up →
      Inked (Between (neg_ℤ w.depth) w.height) (glyph_ink up o)
  symbol_lies w o {m} up e h = rw e (glyph_lies w m up h)

  symbol_ink : (size family : ℕ) (o : Option Symbol) → SymbolThere F size family o → FieldInk (symbol_field_box size family o)
  unfolding symbol_field_box ink_of
  symbol_ink size family none there = record { upright = omega arith; ink = refl }
  symbol_ink size family (some y) there =
      record {
        upright = omega arith;
        ink = (symbol_lies (char_size y.metrics) (F.symbol size family y.code) (pos 0) there (omega arith), tt);
      }

  rule_lies : (w : Size) (r : Rule) → Holds w (rule_size r) r.corner.up → InkBetween F (neg_ℤ w.depth) w.height (own_node (ruled r))
  unfolding ink_of
  rule_lies w r h =
      record {
        lower = le_by (neg (# w.depth)) (# r.corner.up) (omega (arith, h.bottom));
        upper = le_by (# r.corner.up ⊕ # r.thickness) (# w.height) (omega (arith, h.top));
      }

  own_ink : (w : Size) (os : List OwnNode) → AllHeld F w os → InkIn F w (own_nodes os)
  unfolding own_nodes ink_of
  own_ink w [] h = tt
  own_ink w (ruled r ∷ os) h = (rule_lies w r h.0, own_ink w os h.1)
  own_ink w (signed g ∷ os) h =
      (symbol_lies w (F.symbol g.size g.family g.code) g.place.up h.0.there h.0.held, own_ink w os h.1)

  -- ---- an item

  pub item_ink : (s : Style) (kind : Kind) (x y z : FieldBox) → NoThird kind z.shape → FieldInk x → FieldInk y → FieldInk z →
      BoxInk (item_box F s kind x y z)
  unfolding item_box item_nodes
  item_ink s kind x y z only hx hy hz =
      let a = arranged_in F s kind x.shape y.shape z.shape in
      let w = a.size in
      let held = arranged_holds F F.parameter s kind (signs_in F s kind x.shape) x.shape y.shape z.shape only (signs_there F s kind x.shape) hx.upright hy.upright hz.upright in
      let P : Node → Type 0 = InkBetween F (neg_ℤ w.depth) w.height in
      let before = own_nodes a.own.before in
      let first = moved_by a.first x.nodes in
      let behind = own_nodes a.own.behind in
      let second = moved_by a.second y.nodes in
      let third = moved_by a.third z.nodes in
      record {
        upright = held.upright;
        ink =
            every_append P (before ++ first ++ behind ++ second) third
            (every_append P (before ++ first ++ behind) second
            (every_append P (before ++ first) behind
            (every_append P before first (own_ink w a.own.before held.own.before)
            (shape_held x.shape w a.first.across a.first.up x.nodes hx.ink held.first))
            (own_ink w a.own.behind held.own.behind))
            (shape_held y.shape w a.second.across a.second.up y.nodes hy.ink held.second))
            (shape_held z.shape w a.third.across a.third.up z.nodes hz.ink held.third);
      }

  -- ---- a list

  abbrev LineInk : Line → Type 0
  LineInk line = BoxInk line.box

  -- each of two boxes side by side is held by the whole
  module _ (b c : Box) (space : ℤ) where
    abbrev both : Box
    both = beside b space c

    left_held : Holds both.size b.size (pos 0)
    left_held =
        let high = sound (greatest (# b.size.height) (# c.size.height)) (tt, tt) in
        let deep = sound (greatest (# b.size.depth) (# c.size.depth)) (tt, tt) in
        omega arith

    right_held : Holds both.size c.size (pos 0)
    right_held =
        let high = sound (greatest (# b.size.height) (# c.size.height)) (tt, tt) in
        let deep = sound (greatest (# b.size.depth) (# c.size.depth)) (tt, tt) in
        omega arith

    beside_ink : BoxInk b → BoxInk c → BoxInk both
    beside_ink h k =
        let x = b.size.width +ℤ space in
        record {
          upright = upright_within left_held h.upright;
          ink =
              every_append (InkBetween F (neg_ℤ both.size.depth) both.size.height) b.nodes (moved x (pos 0) c.nodes)
              (held_there F b.nodes left_held h.ink)
              (held_ink F x c.nodes right_held k.ink);
        }

  placed_ink : (right : Neighbour) (line : Line) (class : Class) (b : Box) → LineInk line → BoxInk b → LineInk (placed F right line class b)
  unfolding placed
  placed_ink right line class b h k = beside_ink line.box b _ h k

  closed_ink : (s : Style) (right : Neighbour) (line : Line) → LineInk line → BoxInk (closed F s right line)
  closed_ink s none line h = h
  closed_ink s (some class) line h = record { upright = record { high = h.upright.high; deep = h.upright.deep }; ink = h.ink }

  start_ink : (left : Neighbour) (s : Style) → LineInk (start left s)
  start_ink left s = record { upright = omega arith; ink = tt }

  taken_ink : (s : Style) (a b c e : Line) → LineInk a → LineInk b → LineInk c → LineInk e → LineInk (taken s a b c e)
  taken_ink s a b c e p q r u = go s.level
    where
      go : (level : Level) → LineInk (elim level [ Display ↦ a | Text ↦ b | Script ↦ c | Scriptscript ↦ e ])
      go Display = p
      go Text = q
      go Script = r
      go Scriptscript = u

  no_third : (kind : Kind) (s : Style) (z : Field) → ThirdFormed kind z → NoThird kind (set_field F s Plain z).shape
  unfolding set_field
  no_third (Scripted base) s z h = tt
  no_third (Fraction bar) s z h = rw h refl

  mutual
    unfolding set_items set_item set_field set_list Formed FormedItem FormedField

    items_ink : (l : Items) → Formed l → (beyond : Neighbour) (line : Line) → LineInk line → LineInk (set_items F beyond line l)
    items_ink nil f beyond line h = h
    items_ink (cons i r) f beyond line h =
        let right = next_class (style_behind line.style i) beyond r in
        items_ink r f.1 beyond (set_item F right line i) (item_set_lem i f.0 right line h)

    item_set_lem : (i : Item) → FormedItem i → (right : Neighbour) (line : Line) → LineInk line → LineInk (set_item F right line i)
    item_set_lem (noad kind x y z) f right line h =
        let s = line.style in
        placed_ink right line (class_of kind) _ h
        (item_ink s kind
        (set_field F (first_style kind s) (first_manner kind s) x)
        (set_field F (second_style kind s) Plain y)
        (set_field F (third_style s) Plain z)
        (no_third kind (third_style s) z f.3)
        (field_ink x f.0 (first_style kind s) (first_manner kind s))
        (field_ink y f.1 (second_style kind s) Plain)
        (field_ink z f.2 (third_style s) Plain))
    item_set_lem (kern n) f right line h = record { upright = record { high = h.upright.high; deep = h.upright.deep }; ink = h.ink }
    item_set_lem (restyle number) f right line h = h
    item_set_lem (choice a b c e) f right line h =
        taken_ink line.style (set_items F right line a) (set_items F right line b) (set_items F right line c) (set_items F right line e)
        (items_ink a f.0 right line h)
        (items_ink b f.1 right line h)
        (items_ink c f.2 right line h)
        (items_ink e f.3 right line h)

    pub field_ink : (f : Field) → FormedField f → (s : Style) (manner : Manner) → FieldInk (set_field F s manner f)
    field_ink empty h s manner = record { upright = omega arith; ink = refl }
    field_ink (symbol family code) h s manner =
        symbol_ink (font_size s) family (symbol_in F (font_size s) (is_enlarged manner) family code) (symbol_there F (font_size s) family (is_enlarged manner) code)
    field_ink (list l) h s manner =
        let sides = sides_of manner in
        let b = closed_ink s sides.right _ (items_ink l h sides.right (start sides.left s) (start_ink sides.left s)) in
        record { upright = b.upright; ink = b.ink }

  pub list_ink : (sides : Sides) (s : Style) (l : Items) → Formed l → BoxInk (set_list F sides s l)
  unfolding set_list
  list_ink sides s l f = closed_ink s sides.right _ (items_ink l f sides.right (start sides.left s) (start_ink sides.left s))
