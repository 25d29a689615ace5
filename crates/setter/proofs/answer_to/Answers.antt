-- Up to the program's limit it is what setting ensures. Beyond it the empty formula is measured: its refusal, or 3 at 0 where it has none.
-- Assumes nothing.
use Rattle.std.proofs.Common.{refl, ap, ◌∙◌, arith}
use Rattle.std.proofs.lemmas.Result.{err_from_is_err_and}
use Rattle.answers.specs.Answers.{Answered}
use Rattle.layout_answers.specs.RefusalLaws.{refuses}
use Rattle.setter.specs.Thin.{thin_short, tested_first, long_unreadable}
use Rattle.setter.proofs.answer_to.Goals as goal

pub returns-then-formula-le-LONGEST : goal.returns-then-formula-le-LONGEST
returns-then-formula-le-LONGEST c =
    let s = c.set.ensures in
    let same = thin_short _ _ _ _ _ _ (omega (arith, c.if-formula-le-LONGEST.true)) in
    record {
      result_value = s.result_value ∙ same.0;
      nodes_after = s.nodes_after ∙ same.1;
      index_after = s.index_after;
      client_index_after = s.client_index_after;
    }

pub returns-in_err-measure : goal.returns-in_err-measure
returns-in_err-measure c =
    let m = c.in_err-measure.ensures in
    let r = c.in_err-measure.field-0.0 in
    let p = err_from_is_err_and c.from_residual.result c.from_residual.ensures.1 in
    let l = tested_first _ _ _ _ _ (omega (arith, c.if-formula-le-LONGEST.false)) _ _ (ap (λ (a : Answered). a.number) m.result_value) (refuses r) in
    record {
      result_value = rw (p.1, p.2) (m.result_value ∙ l.0);
      nodes_after = l.1;
      index_after = m.index_after;
      client_index_after = m.client_index_after;
    }

pub returns : goal.returns
returns c =
    let m = c.in_ok-measure.ensures in
    let l = long_unreadable _ _ _ _ _ (omega (arith, c.if-formula-le-LONGEST.false)) _ _ (ap (λ (a : Answered). a.number) m.result_value) refl in
    record { result_value = l.0; nodes_after = l.1; index_after = m.index_after; client_index_after = m.client_index_after }
