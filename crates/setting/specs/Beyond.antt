-- What stands beyond items, as those before them and they themselves see it.
--     ◌or_next◌             the first of two neighbours that is an atom
-- Its laws stand in proofs/Beyond.antt. Assumes nothing.
use Rattle.std.proofs.Math.Option.{none, some}
use Rattle.spacing.specs.Classes.{Neighbour}

abbrev pub ◌or_next◌ : Neighbour → Neighbour → Neighbour
◌or_next◌ none n = n
◌or_next◌ (some class) n = some class

infixr 20 ◌or_next◌
