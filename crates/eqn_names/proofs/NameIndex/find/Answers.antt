-- `find` meets its contract: each word may be looked for from the place of its hash on.
-- Assumes nothing.
use lib.ListN.{get_or}
use Rattle.eqn_names.specs.Firsts.{From}
use Rattle.eqn_names.proofs.NameIndex.find.Goals as goal

pub returns : goal.returns
returns c =
    λ ns l.
    let args = c.args in
    let w = args.word.now in
    let from : From args.self.now.names.now ns w (get_or args.self.now.firsts.now c.hash-h.result 0) = rw c.hash-h.ensures.0 (l.firsts w) in
    c.find_from.ensures ns from
