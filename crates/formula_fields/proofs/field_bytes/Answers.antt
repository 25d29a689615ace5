-- `field_bytes` meets its contract.
-- Assumes nothing.
use mathlib.Core.Path.{sym, ap}
use native.Mathlib.Omega.{arith}
use Rattle.formula.specs.Places.{head_bytes}
use Rattle.formula_fields.proofs.field_bytes.Goals as goal

pub overflow_add-result : goal.overflow_add-result
overflow_add-result c = omega (arith, ap head_bytes c.in-Sublist.is)

pub returns-in-Sublist : goal.returns-in-Sublist
returns-in-Sublist c = sym (ap head_bytes c.in-Sublist.is)
