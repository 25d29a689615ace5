-- What the values of the code stand for in the definitions: a fence.
-- Assumes nothing.
use Rattle.boxes.specs.Values.{size_as, offset_as}
use Rattle.fences.specs.declared.Fence as declared
use Rattle.fences.specs.Fences.{Fence}

abbrev pub fence_as : declared.Fence → Fence
fence_as r =
    record {
      size = size_as r.size;
      left = offset_as r.left;
      inside = offset_as r.inside;
      right = offset_as r.right;
    }
