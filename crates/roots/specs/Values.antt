-- What the values of the code stand for in the definitions: a root.
-- Assumes nothing.
use Rattle.boxes.specs.Values.{size_as, offset_as, rule_as}
use Rattle.roots.specs.declared.Radical as declared
use Rattle.roots.specs.Roots.{Radical}

abbrev pub radical_as : declared.Radical → Radical
radical_as r =
    record {
      size = size_as r.size;
      sign = offset_as r.sign;
      rule = rule_as r.rule;
      nucleus = offset_as r.nucleus;
    }
