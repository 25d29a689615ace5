-- The answer, and the buffer, where there is room for the answer. Assumes nothing.
use Rattle.std.proofs.Common.{◌∙◌, length, arith, rules}
use Rattle.eqn_meaning.specs.Answers.{write_result}
use Rattle.eqn_meaning.proofs.ResultLaws.{write_place}
use Rattle.c_words.specs.WordsLaws.{enough, short, reported}
use Rattle.c_eqn.proofs.Reported.{small}
use Rattle.c_eqn.proofs.torfianka_eqn_write.Goals as goal

pub returns-then-answer-lt-REPORT_SPACE-clause-value : goal.returns-then-answer-lt-REPORT_SPACE-clause-value
returns-then-answer-lt-REPORT_SPACE-clause-value c = short c.args.answer.now _ _ c.if-answer-lt-REPORT_SPACE.true

pub returns-then-answer-lt-REPORT_SPACE-clause-answer_after : goal.returns-then-answer-lt-REPORT_SPACE-clause-answer_after
returns-then-answer-lt-REPORT_SPACE-clause-answer_after c = short c.args.answer.now _ _ c.if-answer-lt-REPORT_SPACE.true

pub returns-then-answer-lt-REPORT_SPACE-clause-text_after : goal.returns-then-answer-lt-REPORT_SPACE-clause-text_after
returns-then-answer-lt-REPORT_SPACE-clause-text_after c = short c.args.answer.now _ _ c.if-answer-lt-REPORT_SPACE.true

pub put_report-requires : goal.put_report-requires
put_report-requires c =
    let a = c.args in
    let result = write_result a.names.now a.formula.now in
    let is = c.report_of.ensures ∙ c.write.ensures.result_value in
    let fits =
    small a.names.now a.formula.now (length a.text.now) result (write_place a.names.now a.formula.now) c.report_of.result is
    (omega arith) (omega arith) (omega arith) in
    (search rules, fits.0, fits.1)

pub returns-clause-value : goal.returns-clause-value
returns-clause-value c =
    let is = c.report_of.ensures ∙ c.write.ensures.result_value in
    let r = reported c.report_of.result _ is c.args.answer.now c.put_report.ensures in
    r.0 ∙ enough c.args.answer.now _ _ c.if-answer-lt-REPORT_SPACE.false

pub returns-clause-answer_after : goal.returns-clause-answer_after
returns-clause-answer_after c =
    let is = c.report_of.ensures ∙ c.write.ensures.result_value in
    let r = reported c.report_of.result _ is c.args.answer.now c.put_report.ensures in
    r.1 ∙ enough c.args.answer.now _ _ c.if-answer-lt-REPORT_SPACE.false

pub returns-clause-text_after : goal.returns-clause-text_after
returns-clause-text_after c = c.write.ensures.text_after ∙ enough c.args.answer.now _ _ c.if-answer-lt-REPORT_SPACE.false
