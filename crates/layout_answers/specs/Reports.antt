-- What the parts of an answer stand for. Assumes nothing.
use Rattle.boxes.specs.Values.{size_as}
use Rattle.reasons.specs.Values.{reasons_as}
use Rattle.answers.specs.Answers.{Answered}
use Rattle.answers.specs.Why.{WhyAnswered}
use Rattle.layout_answers.specs.declared.report.SetReport.{SetReport}
use Rattle.layout_answers.specs.declared.why.WhyReport.{WhyReport}

abbrev pub set_report_as : SetReport → Answered
set_report_as p = record { number = p.number; place = p.place; size = size_as p.size; count = p.count }

abbrev pub why_report_as : WhyReport → WhyAnswered
why_report_as p = record { number = p.number; place = p.place; reasons = reasons_as p.reasons }
