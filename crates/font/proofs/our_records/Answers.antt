-- `our_records` is what stands behind the PA records.
-- Assumes nothing.
use Rattle.font.specs.Records.{header_bytes}
use Rattle.font.specs.Reading.{rest_of}
use Rattle.font.proofs.our_records.Goals as goal

pub returns-clause-result_value : goal.returns-clause-result_value
returns-clause-result_value c = rest_of header_bytes c.args.table.now
