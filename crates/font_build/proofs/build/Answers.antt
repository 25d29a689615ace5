-- `build` builds our index from the records behind the PA records (`ours_alone`), and the client's. Assumes nothing.
use mathlib.Core.Path.{ap, ◌∙◌}
use mathlib.Core.List.{List, ◌++◌}
use Prim.Native.Nat.{ℕ}
use native.Mathlib.Omega.{arith}
use lib.ListN.{drop}
use Rattle.font.specs.Records.{client_records}
use Rattle.font_index.specs.Index.{index_words, index_of}
use Rattle.font.specs.FontLaws.{whole_records, sound_client, ours_alone, sound_ours}
use Rattle.font_build.proofs.build.Goals as goal

pub our_records-requires : goal.our_records-requires
our_records-requires c = omega (arith, whole_records c.args.table.now c.requires.0.ours)

pub build_index-requires : goal.build_index-requires
build_index-requires c = (rw c.our_records.ensures.result_value (sound_ours c.args.table.now c.requires.0.ours), c.requires.1)

pub build_index-requires-2 : goal.build_index-requires-2
build_index-requires-2 c = (sound_client c.args.client.now c.requires.0.client, c.requires.2)

pub returns-clause-index_after : goal.returns-clause-index_after
returns-clause-index_after c =
    let a = c.args in
    c.build_index.ensures
    ∙ ap (λ (l : List (List ℕ)). index_of l ++ drop index_words a.index.now) (ap client_records c.our_records.ensures.result_value ∙ ours_alone a.table.now)
