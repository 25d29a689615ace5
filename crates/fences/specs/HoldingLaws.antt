-- What a fence holds (request 12): its list and its delimiters.
--     FenceHolds y x z f     the fence f of a list x between the delimiters y and z does
--     fence_holds            every fence does
-- Assumes nothing.
use Rattle.std.proofs.Common.{arith}
use Rattle.std.specs.Prelude.{ℤ}
use Rattle.scaled.specs.Linear.{#, ◌⊕◌, ◌⊖◌, greatest}
use Rattle.scaled.proofs.Linear.{sound}
use Rattle.boxes.specs.declared.styles.Style.{Style}
use Rattle.boxes.specs.Parameters.{Parameters}
use Rattle.boxes.specs.Boxes.{Size}
use Rattle.boxes.specs.Holding.{Upright, Holds}
use Rattle.fences.specs.Fences.{Fence, fenced, fence_of}

pub record FenceHolds (y x z : Size) (f : Fence) : Type 0 where
  pub upright : Upright f.size
  pub left : Holds f.size y f.left.up
  pub inside : Holds f.size x f.inside.up
  pub right : Holds f.size z f.right.up

-- wherever the delimiters are raised
fenced_holds : (u v : ℤ) (y x z : Size) → Upright x → FenceHolds y x z (fenced u v y x z)
fenced_holds u v y x z ux =
    let high = sound (greatest (greatest (# y.height ⊕ # u) (# x.height)) (# z.height ⊕ # v)) (((tt, tt), tt), (tt, tt)) in
    let deep = sound (greatest (greatest (# y.depth ⊖ # u) (# x.depth)) (# z.depth ⊖ # v)) (((tt, tt), tt), (tt, tt)) in
    omega arith

pub fence_holds : (p : Parameters) (s : Style) (y x z : Size) → Upright x → FenceHolds y x z (fence_of p s y x z)
unfolding fence_of
fence_holds p s y x z ux = fenced_holds _ _ y x z ux
