-- `report_reasons` meets its contract: five stores, by `five_stores`, of the parts of a `WhyReport`.
-- Assumes nothing.
use Rattle.std.proofs.Common.{◌≡◌, ◌≤◌, refl, sym, ap, subst, ◌∙◌, rules, w64, to_z, of_z}
use Rattle.formula.specs.Format.{formula_limit}
use Rattle.reasons.specs.declared.Reason.{Reason}
use Rattle.reasons.specs.declared.Reason.TheVariants.{None, Drop, Sigma, XHeight, Gap, Psi, Clearance}
use Rattle.answers.specs.Why.{WhyAnswered}
use Rattle.layout_answers.specs.declared.why.WhyReport.{WhyReport}
use Rattle.layout_answers.specs.Reports.{why_report_as}
use Rattle.c_why.specs.ReasonWords.{reason_word, reason_words}
use Rattle.c_words.specs.WordsLaws.{five_stores, kept, count_kept}
use Rattle.c_why.proofs.report_reasons.Goals as goal

reason_kept : (r : Reason) → to_z w64 (of_z w64 (reason_word r)) ≡ reason_word r
reason_kept None = refl
reason_kept Drop = refl
reason_kept Sigma = refl
reason_kept XHeight = refl
reason_kept Gap = refl
reason_kept Psi = refl
reason_kept Clearance = refl

place_small : (e : WhyAnswered) (p : WhyReport) → why_report_as p ≡ e → e.place ≤ formula_limit → p.place ≤ formula_limit
place_small e p is h = subst (λ (x : WhyAnswered). x.place ≤ formula_limit) (sym is) h

pub returns : goal.returns
unfolding reason_words
returns c =
    let parts = c.from-report in
    let p = parts.result in
    let small = place_small _ p parts.ensures c.requires.1 in
    let u = p.reasons.up in
    let v = p.reasons.down in
    let w = c.args.words.now in (
      ap (λ (e : WhyAnswered). e.number) parts.ensures,
      five_stores w _ _ _ _ _ c.requires.0
          ∙ rw (kept u.shift.0 (search rules), kept v.shift.0 (search rules), c.count_word.ensures, c.reason_word.ensures, c.reason_word-2.ensures, count_kept p.place small, reason_kept u.by, reason_kept v.by, reason_words) refl
          ∙ ap (λ (e : WhyAnswered). reason_words e w) parts.ensures,
    )
