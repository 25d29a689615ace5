-- An answer whose place and count pass the longest formula by nothing; that each answer is so stands in proofs/Small.antt.
-- Assumes nothing.
use Rattle.std.specs.Prelude.{◌≤◌}
use Rattle.formula.specs.Format.{formula_limit}
use Rattle.answers.specs.Answers.{Answered}

pub record Small (a : Answered) : Type 0 where
  pub place : a.place ≤ formula_limit
  pub count : a.count ≤ formula_limit
