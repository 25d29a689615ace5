-- `list_field` meets its contract: each arm is a clause of `ListField`.
-- Assumes nothing.
use mathlib.Core.Path.{subst}
use native.Mathlib.Omega.{arith}
use Rattle.walk_fields.specs.Fields.{ListGoes}
use Rattle.walk_fields.proofs.growing.list_field.Goals as goal

pub closed_field-requires : goal.closed_field-requires
closed_field-requires c = subst (ListGoes c.args.first) c.in-Ok.is c.requires

pub behind-requires : goal.behind-requires
behind-requires c = omega (arith, subst (ListGoes c.args.first) c.in-Err.is c.requires)

pub returns-in-Ok : goal.returns-in-Ok
returns-in-Ok c = rw c.in-Ok.is c.closed_field.ensures

pub returns-in-Err : goal.returns-in-Err
returns-in-Err c = rw c.in-Err.is c.behind.ensures
