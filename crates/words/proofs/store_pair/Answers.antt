-- `store_pair` meets its contract, by `pair_stores`.
-- Assumes nothing.
use mathlib.Core.Path.{◌∙◌}
use Rattle.words.proofs.Stores.{pair_stores}
use Rattle.words.proofs.store_pair.Goals as goal

pub returns : goal.returns
returns c =
    let args = c.args in
    c.store-2.ensures ∙ rw c.store.ensures (pair_stores args.b.now args.at args.p args.q)
