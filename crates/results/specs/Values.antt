-- What a report of the code stands for.
-- Assumes nothing.
use Rattle.results.specs.declared.Report.{Report}
use Rattle.results.specs.Results.{Answered}

abbrev pub report_as : Report → Answered
report_as r = record { number = r.number; place = r.place; bytes = r.bytes }
