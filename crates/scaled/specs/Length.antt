-- Lengths (document 01, "What the setter covers"): whole scaled points and whole math units, both in ℤ.
--     max_ℤ, min_ℤ     the greater and the lesser of two
--     half           n/2 rounded up, below zero too: `half_3`, `half_minus_3`
--     shr_z z k       z/k rounded down (of `lib.Signed`): the quarter and the fifth of the rules
--     at_quad         math units in scaled points: a unit is the quad's eighteenth, rounded down BEFORE it is multiplied
-- The laws by which `omega` proves linear facts of these stand in `Signed` and `Linear`.
-- Assumes nothing.
use Rattle.std.specs.Prelude.{◌≡◌, refl, Bool, true, false, ℕ, ℤ, pos, negsuc, ◌+ℤ◌, ◌*ℤ◌}
use Rattle.std.specs.Int.Signed.{lt_z, shr_z}

-- a where the test holds, else b
unfoldable pub pick : Bool → ℤ → ℤ → ℤ
pick true a b = a
pick false a b = b

unfoldable pub max_ℤ : ℤ → ℤ → ℤ
max_ℤ a b = pick (lt_z a b) b a

unfoldable pub min_ℤ : ℤ → ℤ → ℤ
min_ℤ a b = pick (lt_z b a) b a

unfoldable pub half : ℤ → ℤ
half n = shr_z (n +ℤ pos 1) 2

half_3 : half (pos 3) ≡ pos 2
unfolding half
half_3 = refl

half_minus_3 : half (negsuc 2) ≡ negsuc 0
unfolding half
half_minus_3 = refl

-- how many math units make a quad
abbrev pub units_in_quad : ℕ
units_in_quad = 18

unfoldable pub at_quad : ℤ → ℤ → ℤ
at_quad units quad = units *ℤ shr_z quad units_in_quad

-- three units of a quad of 1000 are 3 × 55, and not 166
three_at_1000 : at_quad (pos 3) (pos 1000) ≡ pos 165
unfolding at_quad
three_at_1000 = refl
