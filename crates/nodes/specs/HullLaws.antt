-- Laws of hulls.
--     join_none, join_assoc      joining, with `none` as its unit
--     hull_node, hull_append     the hull of one node, and of two runs of nodes
--     hull_moved                 the hull of a moved run
--     fits_hull                  nodes are within the greatest length where their hull is
--     within_true, true_within   the test `within`, as a fact that `omega` reads
--     within_tests               the test `within` as the code makes it
--     fits_within, join_within, moved_within, within_more     how far the ends of a hull can lie
-- Assumes nothing.
use Rattle.std.specs.Prelude.{◌≡◌, refl, Bool, true, false, not, ◌&&◌, List, [], ◌∷◌, ◌++◌, ℕ, suc, ◌+◌, ◌≤◌, ℤ, pos, negsuc, ◌+ℤ◌, ◌≤ℤ◌, leb, ltb}
use Rattle.std.proofs.Common.{sym, ◌∙◌, arith, ltb-false, leb-true, le-ltb, le-leb}
use Rattle.std.proofs.Math.Bool.{and-eq-true_iff, and_assoc, and-true, and-false}
use Rattle.std.specs.Int.Signed.{lt_z}
use Rattle.std.proofs.Math.Dec.{leb-suc-suc}
use Rattle.std.proofs.lemmas.Bool.{not-true}
use Rattle.laws.specs.Truths.{same_truth}
use Rattle.scaled.specs.Length.{max_ℤ, min_ℤ}
use Rattle.scaled.specs.Signed.{Within, own, le_parts, parts_max, parts_min}
use Rattle.scaled.specs.Linear.{#, ◌⊕◌, greatest, least}
use Rattle.scaled.proofs.Linear.{eq_by, le_by, within_by}
use Rattle.nodes.specs.Nodes.{Node, glyph, rule, moved_node, moved}
use Rattle.nodes.specs.Bounds.{greatest_length, within, nodes_fit}
use Rattle.nodes.specs.Hull.{Hull, none, around, joined, moved_hull, node_hull, hull, hull_fits, HullWithin}

-- ---- joining

module _ (a b c : ℤ) where
  min_assoc : min_ℤ (min_ℤ a b) c ≡ min_ℤ a (min_ℤ b c)
  min_assoc = eq_by (least (least (# a) (# b)) (# c)) (least (# a) (least (# b) (# c))) (omega arith)

  max_assoc : max_ℤ (max_ℤ a b) c ≡ max_ℤ a (max_ℤ b c)
  max_assoc = eq_by (greatest (greatest (# a) (# b)) (# c)) (greatest (# a) (greatest (# b) (# c))) (omega arith)

  min_moved : min_ℤ (a +ℤ c) (b +ℤ c) ≡ min_ℤ a b +ℤ c
  min_moved = eq_by (least (# a ⊕ # c) (# b ⊕ # c)) (least (# a) (# b) ⊕ # c) (omega arith)

  max_moved : max_ℤ (a +ℤ c) (b +ℤ c) ≡ max_ℤ a b +ℤ c
  max_moved = eq_by (greatest (# a ⊕ # c) (# b ⊕ # c)) (greatest (# a) (# b) ⊕ # c) (omega arith)

pub join_none : (h : Hull) → joined h none ≡ h
unfolding joined
join_none none = refl
join_none (around a b c d) = refl

pub join_assoc : (f g h : Hull) → joined (joined f g) h ≡ joined f (joined g h)
unfolding joined
join_assoc none g h = refl
join_assoc (around a b c d) none h = refl
join_assoc (around a b c d) (around a' b' c' d') none = refl
join_assoc (around a b c d) (around a' b' c' d') (around a'' b'' c'' d'') =
    rw (min_assoc a a' a'', max_assoc b b' b'', min_assoc c c' c'', max_assoc d d' d'')

pub hull_node : (n : Node) → hull (n ∷ []) ≡ node_hull n
unfolding hull
hull_node n = join_none (node_hull n)

pub hull_append : (ms ns : List Node) → hull (ms ++ ns) ≡ joined (hull ms) (hull ns)
unfolding hull joined
hull_append [] ns = refl
hull_append (m ∷ ms) ns = rw (hull_append ms ns) (sym (join_assoc (node_hull m) (hull ms) (hull ns)))

-- ---- moving

join_moved : (dx dy : ℤ) (g h : Hull) → joined (moved_hull dx dy g) (moved_hull dx dy h) ≡ moved_hull dx dy (joined g h)
unfolding joined moved_hull
join_moved dx dy none h = refl
join_moved dx dy (around a b c d) none = refl
join_moved dx dy (around a b c d) (around a' b' c' d') =
    rw (min_moved a a' dx, max_moved b b' dx, min_moved c c' dy, max_moved d d' dy)

node_moved : (dx dy : ℤ) (n : Node) → node_hull (moved_node dx dy n) ≡ moved_hull dx dy (node_hull n)
unfolding moved_hull
node_moved dx dy (glyph x y size family code) = refl
node_moved dx dy (rule x y width thickness) = refl

pub hull_moved : (dx dy : ℤ) (ns : List Node) → hull (moved dx dy ns) ≡ moved_hull dx dy (hull ns)
unfolding hull moved moved_hull
hull_moved dx dy [] = refl
hull_moved dx dy (n ∷ ns) = rw (hull_moved dx dy ns, node_moved dx dy n) (join_moved dx dy (node_hull n) (hull ns))

-- ---- bounds

pub within_true : (z : ℤ) → within z ≡ true → Within greatest_length z
within_true (pos n) t = let l = leb-true n greatest_length t in omega arith
within_true (negsuc n) t = let l = leb-true (suc n) greatest_length t in omega arith

pub true_within : (z : ℤ) → Within greatest_length z → within z ≡ true
true_within (pos n) h = le-leb n greatest_length (omega arith)
true_within (negsuc n) h = le-leb (suc n) greatest_length (omega arith)

not_less : (m n : ℕ) → not (ltb m n) ≡ leb n m
not_less m n =
    same_truth _ _ (λ t. le-leb n m (ltb-false m n (not-true _ t))) (λ t. rw (le-ltb m n (leb-true n m t)))

-- the two tests that the code makes
pub within_tests : (z : ℤ) → not (lt_z z (negsuc 1_073_741_822)) && not (lt_z (pos greatest_length) z) ≡ within z
within_tests (pos n) = not_less greatest_length n
within_tests (negsuc n) = and-true _ ∙ not_less 1_073_741_822 n ∙ sym (leb-suc-suc n 1_073_741_822)

both : {p q : Bool} → p ≡ true → q ≡ true → p && q ≡ true
both {p} {q} s t = (and-eq-true_iff p q).1 (s, t)

-- on each axis: a place and two ends, and the ends once the place is joined to them
axis_fits : (x a b : ℤ) → a ≤ℤ b → within x && (within a && within b) ≡ within (min_ℤ x a) && within (max_ℤ x b)
axis_fits x a b l =
    let order = le_parts l in
    let lesser = parts_min (own x) (own a) in
    let greater = parts_max (own x) (own b) in
    same_truth _ _
    (λ t.
    let s = (and-eq-true_iff (within x) _).0 t in
    let ends = (and-eq-true_iff (within a) (within b)).0 s.1 in
    let at_x = within_true x s.0 in
    let at_a = within_true a ends.0 in
    let at_b = within_true b ends.1 in
    both (true_within (min_ℤ x a) (omega arith)) (true_within (max_ℤ x b) (omega arith)))
    (λ t.
    let s = (and-eq-true_iff (within (min_ℤ x a)) _).0 t in
    let at_least_lem = within_true (min_ℤ x a) s.0 in
    let at_most = within_true (max_ℤ x b) s.1 in
    both (true_within x (omega arith)) (both (true_within a (omega arith)) (true_within b (omega arith))))

by_axis : (p q a b c d : Bool) → p && q && (a && b && c && d) ≡ p && (a && b) && (q && (c && d))
by_axis false q a b c d = refl
by_axis true q false b c d = and-false q
by_axis true q true false c d = and-false q
by_axis true q true true c d = refl

twice : (p q : Bool) → p && q && true ≡ p && p && q && q
twice true true = refl
twice true false = refl
twice false q = refl

-- left is at most right, bottom at most top
abbrev Ordered : Hull → Type 0
Ordered none = Unit {0}
Ordered (around a b c d) = (a ≤ℤ b) × (c ≤ℤ d)

ordered : (x y : ℤ) (h : Hull) → Ordered (joined (around x x y y) h)
unfolding joined
ordered x y none = (le_by (# x) (# x) (omega arith), le_by (# y) (# y) (omega arith))
ordered x y (around a b c d) =
    (le_by (least (# x) (# a)) (greatest (# x) (# b)) (omega arith), le_by (least (# y) (# c)) (greatest (# y) (# d)) (omega arith))

hull_ordered : (ns : List Node) → Ordered (hull ns)
unfolding hull
hull_ordered [] = tt
hull_ordered (glyph x y size family code ∷ ns) = ordered x y (hull ns)
hull_ordered (rule x y width thickness ∷ ns) = ordered x y (hull ns)

place_fits : (x y : ℤ) (h : Hull) → Ordered h → within x && within y && hull_fits h ≡ hull_fits (joined (around x x y y) h)
unfolding joined hull_fits
place_fits x y none o = twice (within x) (within y)
place_fits x y (around a b c d) o =
    by_axis (within x) (within y) (within a) (within b) (within c) (within d)
    ∙ rw (axis_fits x a b o.0, axis_fits y c d o.1) (simp and_assoc)

pub fits_hull : (ns : List Node) → nodes_fit ns ≡ hull_fits (hull ns)
unfolding nodes_fit hull hull_fits
fits_hull [] = refl
fits_hull (glyph x y size family code ∷ ns) = rw (fits_hull ns) (place_fits x y (hull ns) (hull_ordered ns))
fits_hull (rule x y width thickness ∷ ns) = rw (fits_hull ns) (place_fits x y (hull ns) (hull_ordered ns))

pub fits_within : (h : Hull) → hull_fits h ≡ true → HullWithin greatest_length h
unfolding hull_fits
fits_within none t = tt
fits_within (around a b c d) t =
    let abc = (and-eq-true_iff (within a && within b && within c) (within d)).0 t in
    let ab = (and-eq-true_iff (within a && within b) (within c)).0 abc.0 in
    let ends = (and-eq-true_iff (within a) (within b)).0 ab.0 in
    (within_true a ends.0, within_true b ends.1, within_true c ab.1, within_true d abc.1)

pub join_within : (k : ℕ) (g h : Hull) → HullWithin k g → HullWithin k h → HullWithin k (joined g h)
unfolding joined
join_within k none h v w = w
join_within k (around a b c d) none v w = v
join_within k (around a b c d) (around a' b' c' d') v w = (
  within_by (least (# a) (# a')) k (omega arith),
  within_by (greatest (# b) (# b')) k (omega arith),
  within_by (least (# c) (# c')) k (omega arith),
  within_by (greatest (# d) (# d')) k (omega arith),
)

pub moved_within : (j k : ℕ) (dx dy : ℤ) (h : Hull) → HullWithin j h → Within k dx → Within k dy →
    HullWithin (j + k) (moved_hull dx dy h)
unfolding moved_hull
moved_within j k dx dy none w u v = tt
moved_within j k dx dy (around a b c d) w u v = (
  within_by (# a ⊕ # dx) (j + k) (omega arith),
  within_by (# b ⊕ # dx) (j + k) (omega arith),
  within_by (# c ⊕ # dy) (j + k) (omega arith),
  within_by (# d ⊕ # dy) (j + k) (omega arith),
)

pub within_more : (j k : ℕ) (h : Hull) → j ≤ k → HullWithin j h → HullWithin k h
within_more j k none l w = tt
within_more j k (around a b c d) l w = (omega arith, omega arith, omega arith, omega arith)
