-- What the values of the code stand for in the definitions: a nucleus.
-- Assumes nothing.
use Rattle.boxes.specs.Values.{size_as, offset_as, own_as}
use Rattle.nucleus.specs.declared.Nucleus.{Nucleus}
use Rattle.nucleus.specs.Nucleus.{Nucleus as NucleusOf}

abbrev pub nucleus_as : Nucleus → NucleusOf
nucleus_as n =
    record {
      size = size_as n.size;
      first = offset_as n.first;
      δ = n.delta.0;
      is_plain = n.plain;
      own = own_as n.own;
    }
