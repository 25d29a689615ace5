-- What the operations on lengths promise.
--     reach         how far from zero a length may lie that is added, subtracted, halved or multiplied
--     Made e r      r is the value of the expression e: `is` in ℤ, and `parts` over ℕ, which `omega` and `search needs` read unaided;
--                   made from its equation by `made`, from its parts by `made_parts`
--     Sum, Difference, Negation, Multiple, Half, Floor, Greatest, Least     `Made` of one operation
--     FromWord      a table's word as a length
--     AtQuad        math units as a length that is at most the quad; `at_quad_lem` makes it
--     Less          a test, and what it says by the parts; `less` makes it
--     pick_yes, pick_no     a choice whose test is known
-- Assumes nothing.
use Rattle.std.specs.Prelude.{◌≡◌, Bool, true, false, ℕ, ◌+◌, ◌^◌, ◌≤◌, ◌<◌, ℤ, pos}
use Rattle.std.proofs.Common.{ltb-true, ltb-false}
use Rattle.std.specs.Int.Signed.{lt_z}
use Rattle.scaled.specs.Length.{pick}
use Rattle.scaled.specs.Signed.{above, below, own, lt_test}
use Rattle.scaled.specs.Linear.{Exp, #, ◌⊕◌, ◌⊖◌, neg, times, greatest, least, halved, floor, units, den, hi, lo}

-- 255 times that fits 64 bits, and the sum of 131,072 lengths of 2 ^ 33 each is within it
abbrev pub reach : ℕ
reach = 2 ^ 55

pub record Made (e : Exp) (r : ℤ) : Type 0 where
  pub is : r ≡ den e
  pub parts : above r + lo e ≡ hi e + below r

abbrev pub Sum : ℤ → ℤ → ℤ → Type 0
Sum a b r = Made (# a ⊕ # b) r

abbrev pub Difference : ℤ → ℤ → ℤ → Type 0
Difference a b r = Made (# a ⊖ # b) r

abbrev pub Negation : ℤ → ℤ → Type 0
Negation a r = Made (neg (# a)) r

-- k times a
abbrev pub Multiple : ℕ → ℤ → ℤ → Type 0
Multiple k a r = Made (times (# a) k) r

abbrev pub Half : ℤ → ℤ → Type 0
Half a r = Made (halved (# a)) r

-- a / k, rounded down
abbrev pub Floor : ℕ → ℤ → ℤ → Type 0
Floor k a r = Made (floor (# a) k) r

abbrev pub Greatest : ℤ → ℤ → ℤ → Type 0
Greatest a b r = Made (greatest (# a) (# b)) r

abbrev pub Least : ℤ → ℤ → ℤ → Type 0
Least a b r = Made (least (# a) (# b)) r

-- by the parts, 0 ≤ r < 2 ^ 32
abbrev pub FromWord : ℕ → ℤ → Type 0
FromWord w r = Made (# (pos w)) r × (w < 2 ^ 32)

-- −quad ≤ r ≤ quad, by the parts
pub record AtQuad (a quad r : ℤ) : Type 0 where
  pub at : Made (units (# a) (# quad)) r
  pub over : above r + below quad ≤ above quad + below r
  pub under : below r + below quad ≤ above quad + above r

-- t is whether a is less than b
pub record Less (a b : ℤ) (t : Bool) : Type 0 where
  pub is : t ≡ lt_z a b
  pub yes : t ≡ true → above a + below b < above b + below a
  pub no : t ≡ false → above b + below a ≤ above a + below b

pub less : {a b : ℤ} {t : Bool} → t ≡ lt_z a b → Less a b t
less {a} {b} is =
    let test = lt_test (own a) (own b) in
    record { is = is; yes = λ e. ltb-true _ _ (cc); no = λ e. ltb-false _ _ (cc) }

pub pick_yes : {r a : ℤ} {t : Bool} (b : ℤ) → t ≡ true → r ≡ a → r ≡ pick t a b
unfolding pick
pick_yes b e h = rw (e, pick) h

pub pick_no : {r b : ℤ} {t : Bool} (a : ℤ) → t ≡ false → r ≡ b → r ≡ pick t a b
unfolding pick
pick_no a e h = rw (e, pick) h
