-- Laws of the ink of nodes: what the rules do with nodes is to put them together and to move them.
--     every_append, every_moved        what holds of every node of two runs, and of a run that is moved
--     inked_symbol                     a glyph with ink has a symbol
--     ink_raised                       the ink of a node that is moved is moved with it
--     held_ink                         what a box holds, it holds the ink of (`Holds` of the rules)
--     span_moved                       the ink of a box that is raised
--     clear_by, clear_none             runs that are clear of each other by their heights, or because there are no nodes
-- Assumes nothing.
use Rattle.std.specs.Prelude.{◌≡◌, refl, ℤ, pos, neg_ℤ, ◌+ℤ◌, ◌-ℤ◌, ◌≤ℤ◌}
use Rattle.std.proofs.Common.{sym, ap, ap₂, subst, arith}
use mathlib.Core.List.{List, [], ◌∷◌, ◌++◌}
use Rattle.std.proofs.Math.Option.{Option, none, some}
use Rattle.scaled.specs.Signed.{le_parts}
use Rattle.scaled.specs.Linear.{#, ◌⊕◌, ◌⊖◌, neg}
use Rattle.scaled.proofs.Linear.{sound, eq_by, le_by}
use Rattle.font.specs.Font.{Font, Metrics}
use Rattle.boxes.specs.Boxes.{Size}
use Rattle.boxes.specs.Holding.{Holds}
use Rattle.nodes.specs.Nodes.{Node, glyph, rule, moved_node, moved}
use Rattle.setting.specs.Ink.{Ink, glyph_ink, ink_of, HasSymbol, Inked, Every, Between, InkBetween, InkIn, Over, InkOver, Clear}

-- ---- every node

module _ (P : Node → Type 0) where
  pub every_append : (ms ns : List Node) → Every P ms → Every P ns → Every P (ms ++ ns)
  every_append [] ns h k = k
  every_append (m ∷ ms) ns h k = (h.0, every_append ms ns h.1 k)

module _ (P Q : Node → Type 0) where
  pub every_so : (ns : List Node) → ((n : Node) → P n → Q n) → Every P ns → Every Q ns
  every_so [] f h = tt
  every_so (n ∷ ns) f h = (f n h.0, every_so ns f h.1)

  pub every_moved : (dx dy : ℤ) (ns : List Node) → ((n : Node) → P n → Q (moved_node dx dy n)) → Every P ns → Every Q (moved dx dy ns)
  unfolding moved
  every_moved dx dy [] f h = tt
  every_moved dx dy (n ∷ ns) f h = (f n h.0, every_moved dx dy ns f h.1)

-- ---- ink that is moved

abbrev raised_ink : ℤ → Ink → Ink
raised_ink dy i = record { bottom = i.bottom +ℤ dy; top = i.top +ℤ dy }

abbrev raised_if : ℤ → Option Ink → Option Ink
raised_if dy none = none
raised_if dy (some i) = some (raised_ink dy i)

abbrev ink_from : ℤ → ℤ → Option Ink
ink_from bottom top = some record { bottom = bottom; top = top }

pub ink_raised : (F : Font) (dx dy : ℤ) (n : Node) → ink_of F (moved_node dx dy n) ≡ raised_if dy (ink_of F n)
unfolding ink_of
ink_raised F dx dy (glyph x y size family code) = go (F.symbol size family code)
  where
    go : (o : Option Metrics) → glyph_ink (y +ℤ dy) o ≡ raised_if dy (glyph_ink y o)
    go none = refl
    go (some m) =
        let d = # (pos m.depth) in
        let h = # (pos m.height) in
        ap₂ ink_from (eq_by ((# y ⊕ # dy) ⊖ d) ((# y ⊖ d) ⊕ # dy) (omega arith)) (eq_by ((# y ⊕ # dy) ⊕ h) ((# y ⊕ h) ⊕ # dy) (omega arith))
ink_raised F dx dy (rule x y width thickness) =
    ap (ink_from (y +ℤ dy)) (eq_by ((# y ⊕ # dy) ⊕ # thickness) ((# y ⊕ # thickness) ⊕ # dy) (omega arith))

inked_raised : (C D : Ink → Type 0) (dy : ℤ) (o : Option Ink) → ((i : Ink) → C i → D (raised_ink dy i)) → Inked C o → Inked D (raised_if dy o)
inked_raised C D dy none f h = h
inked_raised C D dy (some i) f h = f i h

inked_so : (C D : Ink → Type 0) (o : Option Ink) → ((i : Ink) → C i → D i) → Inked C o → Inked D o
inked_so C D none f h = h
inked_so C D (some i) f h = f i h

-- ---- a node with ink

pub inked_symbol : (F : Font) (bottom top : ℤ) (n : Node) → InkBetween F bottom top n → HasSymbol F n
unfolding ink_of
inked_symbol F bottom top (glyph x y size family code) h = go (F.symbol size family code) refl h
  where
    go : (o : Option Metrics) → F.symbol size family code ≡ o → Inked (Between bottom top) (glyph_ink y o) →
        (m : Metrics) × (F.symbol size family code ≡ some m)
    go none e h = absurd h
    go (some m) e h = (m, e)
inked_symbol F bottom top (rule x y width thickness) h = tt

module _ (F : Font) where
  -- a claim of a node that is moved
  inked_moved : (C D : Ink → Type 0) (dx dy : ℤ) (n : Node) → ((i : Ink) → C i → D (raised_ink dy i)) → Inked C (ink_of F n) →
      Inked D (ink_of F (moved_node dx dy n))
  inked_moved C D dx dy n f h = subst (Inked D) (sym (ink_raised F dx dy n)) (inked_raised C D dy (ink_of F n) f h)

  -- ---- what a box holds

  pub held_ink : {w z : Size} {up : ℤ} (across : ℤ) (ns : List Node) → Holds w z up → InkIn F z ns → InkIn F w (moved across up ns)
  held_ink {w} {z} {up} across ns holds h =
      every_moved (InkBetween F (neg_ℤ z.depth) z.height) (InkBetween F (neg_ℤ w.depth) w.height) across up ns
      (λ n b. inked_moved (Between (neg_ℤ z.depth) z.height) (Between (neg_ℤ w.depth) w.height) across up n lies b) h
    where
      lies : (i : Ink) → Between (neg_ℤ z.depth) z.height i → Between (neg_ℤ w.depth) w.height (raised_ink up i)
      lies i b =
          let low = le_parts b.lower in
          let high = le_parts b.upper in
          record {
            lower = le_by (neg (# w.depth)) (# i.bottom ⊕ # up) (omega (arith, low, holds.bottom, sound (neg (# z.depth)) tt));
            upper = le_by (# i.top ⊕ # up) (# w.height) (omega (arith, high, holds.top));
          }

  pub held_there : {w z : Size} (ns : List Node) → Holds w z (pos 0) → InkIn F z ns → InkIn F w ns
  held_there {w} {z} ns holds h =
      every_so (InkBetween F (neg_ℤ z.depth) z.height) (InkBetween F (neg_ℤ w.depth) w.height) ns
      (λ n b. inked_so (Between (neg_ℤ z.depth) z.height) (Between (neg_ℤ w.depth) w.height) (ink_of F n) lies b) h
    where
      lies : (i : Ink) → Between (neg_ℤ z.depth) z.height i → Between (neg_ℤ w.depth) w.height i
      lies i b =
          let low = le_parts b.lower in
          let high = le_parts b.upper in
          record {
            lower = le_by (neg (# w.depth)) (# i.bottom) (omega (arith, low, holds.bottom, sound (neg (# z.depth)) tt));
            upper = le_by (# i.top) (# w.height) (omega (arith, high, holds.top));
          }

  pub span_moved : (z : Size) (across up : ℤ) (ns : List Node) → InkIn F z ns →
      Every (InkBetween F (up -ℤ z.depth) (z.height +ℤ up)) (moved across up ns)
  span_moved z across up ns h =
      every_moved (InkBetween F (neg_ℤ z.depth) z.height) (InkBetween F (up -ℤ z.depth) (z.height +ℤ up)) across up ns
      (λ n b. inked_moved (Between (neg_ℤ z.depth) z.height) (Between (up -ℤ z.depth) (z.height +ℤ up)) across up n lies b) h
    where
      lies : (i : Ink) → Between (neg_ℤ z.depth) z.height i → Between (up -ℤ z.depth) (z.height +ℤ up) (raised_ink up i)
      lies i b =
          let low = le_parts b.lower in
          let high = le_parts b.upper in
          record {
            lower = le_by (# up ⊖ # z.depth) (# i.bottom ⊕ # up) (omega (arith, low, sound (neg (# z.depth)) tt));
            upper = le_by (# i.top ⊕ # up) (# z.height ⊕ # up) (omega (arith, high));
          }

  -- ---- runs that are clear of each other

  module _ (gap low₁ high₁ low₂ high₂ : ℤ) (apart : (high₂ +ℤ gap) ≤ℤ low₁) where
    over_by : (o p : Option Ink) → Inked (Between low₁ high₁) o → Inked (Between low₂ high₂) p → Inked (λ (i : Ink). Inked (λ (j : Ink). Over gap i j) p) o
    over_by none p h k = h
    over_by (some i) none h k = k
    over_by (some i) (some j) h k =
        let low = le_parts h.lower in
        let high = le_parts k.upper in
        let free = le_parts apart in
        record { free = le_by (# j.top ⊕ # gap) (# i.bottom) (omega (arith, low, high, free, sound (# high₂ ⊕ # gap) (tt, tt))) }

    pub clear_by : (ns ms : List Node) → Every (InkBetween F low₁ high₁) ns → Every (InkBetween F low₂ high₂) ms → Clear F gap ns ms
    clear_by ns ms h k =
        every_so (InkBetween F low₁ high₁) (λ (n : Node). Every (InkOver F gap n) ms) ns
        (λ n b. every_so (InkBetween F low₂ high₂) (InkOver F gap n) ms (λ m c. over_by (ink_of F n) (ink_of F m) b c) k) h

  -- of no nodes nothing is claimed
  pub clear_none : (gap : ℤ) (ns : List Node) → Clear F gap ns []
  clear_none gap [] = tt
  clear_none gap (n ∷ ns) = (tt, clear_none gap ns)
