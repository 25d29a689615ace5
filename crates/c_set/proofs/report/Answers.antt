-- `report` meets its contract: five stores, by `five_stores`, of the parts that `report_of` gives. Assumes nothing.
use Rattle.std.proofs.Common.{◌≡◌, refl, sym, ap, subst, ◌∙◌, rules}
use Rattle.answers.specs.Answers.{Answered}
use Rattle.answers.specs.Small.{Small}
use Rattle.layout_answers.specs.declared.report.SetReport.{SetReport}
use Rattle.layout_answers.specs.Reports.{set_report_as}
use Rattle.c_set.specs.AnswerWords.{answer_words}
use Rattle.c_words.specs.WordsLaws.{five_stores, kept, count_kept}
use Rattle.c_set.proofs.report.Goals as goal

report_small : (a : Answered) (p : SetReport) → set_report_as p ≡ a → Small a → Small (set_report_as p)
report_small a p e h = subst Small (sym e) h

pub returns : goal.returns
unfolding answer_words
returns c =
    let p = c.from-report in
    let small = report_small _ p.result p.ensures c.requires.1 in
    let z = p.result.size in
    let w = c.args.words.now in (
      ap (λ (a : Answered). a.number) p.ensures,
      five_stores w _ _ _ _ _ c.requires.0
          ∙ rw (kept z.width.0 (search rules), kept z.height.0 (search rules), kept z.depth.0 (search rules), c.count_word.ensures, c.count_word-2.ensures, count_kept p.result.place small.place, count_kept p.result.count small.count, answer_words) refl
          ∙ ap (λ (a : Answered). answer_words a w) p.ensures,
    )
