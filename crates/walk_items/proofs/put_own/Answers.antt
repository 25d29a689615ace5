-- `put_own` meets its contract: the sign, and the rule behind it (`own_joined`).
-- Assumes nothing.
use Rattle.boxes.specs.Values.{signing_as, ruling_as}
use Rattle.walk_items.specs.ItemLaws.{own_joined}
use Rattle.walk_items.proofs.put_own.Goals as goal

pub returns : goal.returns
returns c =
    let own = c.args.own in
    own_joined (signing_as own.sign) (ruling_as own.ruling) c.put_sign-signed.ensures c.put_ruling.ensures
