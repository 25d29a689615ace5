-- The answer, and the buffer, where there is room for the answer. Assumes nothing.
use Rattle.std.proofs.Common.{◌∙◌, length, arith, rules}
use Rattle.eqn_meaning.specs.Answers.{read_result}
use Rattle.eqn_meaning.proofs.ResultLaws.{read_place}
use Rattle.c_words.specs.WordsLaws.{enough, short, reported}
use Rattle.c_eqn.proofs.Reported.{small}
use Rattle.c_eqn.proofs.torfianka_eqn_read.Goals as goal

pub returns-then-answer-lt-REPORT_SPACE-clause-value : goal.returns-then-answer-lt-REPORT_SPACE-clause-value
returns-then-answer-lt-REPORT_SPACE-clause-value c = short c.args.answer.now _ _ c.if-answer-lt-REPORT_SPACE.true

pub returns-then-answer-lt-REPORT_SPACE-clause-answer_after : goal.returns-then-answer-lt-REPORT_SPACE-clause-answer_after
returns-then-answer-lt-REPORT_SPACE-clause-answer_after c = short c.args.answer.now _ _ c.if-answer-lt-REPORT_SPACE.true

pub returns-then-answer-lt-REPORT_SPACE-clause-formula_after : goal.returns-then-answer-lt-REPORT_SPACE-clause-formula_after
returns-then-answer-lt-REPORT_SPACE-clause-formula_after c = short c.args.answer.now _ _ c.if-answer-lt-REPORT_SPACE.true

pub put_report-requires : goal.put_report-requires
put_report-requires c =
    let a = c.args in
    let result = read_result a.names.now a.text.now in
    let is = c.report_of.ensures ∙ c.read.ensures.result_value in
    let fits =
    small a.names.now a.text.now (length a.formula.now) result (read_place a.names.now a.text.now) c.report_of.result is
    (omega arith) (omega arith) (omega arith) in
    (search rules, fits.0, fits.1)

pub returns-clause-value : goal.returns-clause-value
returns-clause-value c =
    let is = c.report_of.ensures ∙ c.read.ensures.result_value in
    let r = reported c.report_of.result _ is c.args.answer.now c.put_report.ensures in
    r.0 ∙ enough c.args.answer.now _ _ c.if-answer-lt-REPORT_SPACE.false

pub returns-clause-answer_after : goal.returns-clause-answer_after
returns-clause-answer_after c =
    let is = c.report_of.ensures ∙ c.read.ensures.result_value in
    let r = reported c.report_of.result _ is c.args.answer.now c.put_report.ensures in
    r.1 ∙ enough c.args.answer.now _ _ c.if-answer-lt-REPORT_SPACE.false

pub returns-clause-formula_after : goal.returns-clause-formula_after
returns-clause-formula_after c = c.read.ensures.formula_after ∙ enough c.args.answer.now _ _ c.if-answer-lt-REPORT_SPACE.false
