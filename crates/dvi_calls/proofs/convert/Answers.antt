-- What `measure` finds decides the answer, and where there is room `transcribe` makes the buffer. Assumes nothing.
use mathlib.Core.Path.{◌≡◌, sym, ap, ◌∙◌}
use native.Mathlib.Omega.{arith}
use Rattle.results.specs.Results.{accepted, refusal}
use Rattle.dvi.specs.AnswerLaws.{answer_refused, buffer_refused, answer_full, buffer_full, answer_made}
use Rattle.dvi_calls.proofs.Refusals.{refused_with}
use Rattle.dvi_calls.proofs.convert.Goals as goal

pub returns-in_err-size-clause-result_value : goal.returns-in_err-size-clause-result_value
returns-in_err-size-clause-result_value g c =
    let none = rw c.in_err-size.ensures.ok_part at c.measure.ensures in
    let value = rw c.in_err-size.ensures.ok_part at c.in_err-size.ensures.value in
    let same : c.in_err-size.field-0.0 ≡ c.args.unreadable = cc in
    rw same at (refused_with _ _ c.from_residual.ensures.1) ∙ ap (λ n. refusal n 0) c.requires.number ∙ sym (answer_refused g.From.NodeForm.form c.args.s.now none _)

pub returns-in_err-size-clause-out_after : goal.returns-in_err-size-clause-out_after
returns-in_err-size-clause-out_after g c =
    let none = rw c.in_err-size.ensures.ok_part at c.measure.ensures in
    sym (buffer_refused g.From.NodeForm.form c.args.s.now none c.args.out.now)

pub returns-then-out-size-clause-result_value : goal.returns-then-out-size-clause-result_value
returns-then-out-size-clause-result_value g c =
    let sized = rw c.in_ok-size.ensures.ok_part at c.measure.ensures in
    sym (answer_full g.From.NodeForm.form c.args.s.now sized.reads _ (omega (arith, sized.size_is)))

pub returns-then-out-size-clause-out_after : goal.returns-then-out-size-clause-out_after
returns-then-out-size-clause-out_after g c =
    let sized = rw c.in_ok-size.ensures.ok_part at c.measure.ensures in
    sym (buffer_full g.From.NodeForm.form c.args.s.now sized.reads c.args.out.now (omega (arith, sized.size_is)))

pub transcribe-requires-clause-room : goal.transcribe-requires-clause-room
transcribe-requires-clause-room g c =
    record { size = _; sized = rw c.in_ok-size.ensures.ok_part at c.measure.ensures; room = c.if-out-size.false }

pub returns-clause-result_value : goal.returns-clause-result_value
returns-clause-result_value g c =
    let sized = rw c.in_ok-size.ensures.ok_part at c.measure.ensures in
    ap accepted sized.size_is ∙ sym (answer_made g.From.NodeForm.form c.args.s.now sized.reads _ (omega (arith, sized.size_is)))
