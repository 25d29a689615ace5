-- `turned` meets its contract: the four bytes, the last one first.
-- Assumes nothing.
use native.Mathlib.Omega.{arith}
use Rattle.words.specs.Words.{little_endian, four_bytes}
use Rattle.dvi.specs.Commands.{turned_word}
use Rattle.dvi_body.proofs.turned.Goals as goal

pub returns : goal.returns
unfolding turned_word little_endian four_bytes
returns c = omega arith
