-- `store` meets its contract, by `bytes_stored`.
-- Assumes nothing.
use mathlib.Core.Path.{◌∙◌}
use Rattle.words.proofs.Stores.{bytes_stored}
use Rattle.words.proofs.store.Goals as goal

pub returns : goal.returns
returns c = bytes_stored c.args.b.now c.copy_from_slice.new.self c.args.at c.args.w c.requires (c.copy_from_slice.ensures.after ∙ c.to_le_bytes.ensures)
