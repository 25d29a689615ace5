-- `are_parameters` tests every PA record: of those that are left the invariant is `Left`.
-- Assumes nothing.
use mathlib.Core.Path.{sym, ap, ◌∙◌}
use mathlib.Core.List.{List}
use Prim.Native.Nat.{ℕ}
use native.Mathlib.Omega.{arith}
use Rattle.font.specs.Records.{size_count, parameter_bytes, parameter_records, every, good_parameters}
use Rattle.font.specs.Reading.{first_passed, none_left}
use Rattle.font.specs.RecordsLaws.{in_pieces, first_in_pieces, none_in_pieces, front_in_pieces}
use Rattle.font_records.proofs.are_parameters.Invariants.{all_good}
use Rattle.font_records.proofs.are_parameters.Goals as goal

pub loop-r-init : goal.loop-r-init
unfolding parameter_records
loop-r-init c =
    let made = c.chunks_exact-r-items.ensures in
    let is = c.into_iter-r-iterator.ensures.into_iter_gives in
    rw is
    (made.size, record { rest = ap (every good_parameters) (sym (ap (λ (s : List ℕ). in_pieces parameter_bytes s) made.rest ∙ front_in_pieces parameter_bytes size_count c.args.table.now (omega arith) c.requires)) })

pub loop-r-preserved : goal.loop-r-preserved
unfolding every
loop-r-preserved c =
    let step = c.in-Some.ensures.steps in
    let l = c.loop-r in
    let r = c.in-Some.r.now in
    let u = c.next.new.self.rest.now in
    let first = first_in_pieces parameter_bytes r u (omega arith) step.1.0 (step.1.1 ∙ l.invariant.0) in (
      step.0 ∙ l.invariant.0,
      first_passed l.invariant.1 all_good c.is_parameters-good.result u (rw (first, c.is_parameters-good.ensures)),
    )

pub returns : goal.returns
unfolding every
returns c =
    let l = c.loop-r in
    let done = none_in_pieces parameter_bytes l.r-iterator.rest.now (omega (arith, c.in-None.ensures.steps.1.0, l.invariant.0)) in
    sym (none_left l.invariant.1 (ap (every good_parameters) done))
