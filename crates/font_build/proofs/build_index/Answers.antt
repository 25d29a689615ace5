-- `build_index` clears the words, marks each record and sums the counts: what is left is the index (`built`). Assumes nothing.
use mathlib.Core.Path.{ap, ◌∙◌}
use mathlib.Core.List.{List, ◌++◌}
use Prim.Native.Nat.{ℕ}
use native.Mathlib.Omega.{arith}
use Rattle.font.specs.Records.{client_records}
use Rattle.font_index.specs.Index.{index_of}
use Rattle.font.specs.RecordsLaws.{recorded, few, all_within}
use Rattle.font_build.proofs.BuildLaws.{running_small, built}
use Rattle.font_build.proofs.build_index.Goals as goal

pub sum-requires : goal.sum-requires
sum-requires c =
    let s = c.args.s.now in
    let sound = c.requires.0 in
    let marked = c.mark_all.ensures.0 in
    let small = running_small c.mark_all.new.index (client_records s) (all_within (client_records s) sound.good) marked in
    (marked.long, omega (arith, small, recorded s, few s sound))

pub returns : goal.returns
returns c =
    let s = c.args.s.now in
    built c.mark_all.new.index (client_records s) (all_within (client_records s) c.requires.0.good) c.mark_all.ensures.0 c.sum.new.index c.sum.ensures
    ∙ ap (λ (l : List ℕ). index_of (client_records s) ++ l) (c.mark_all.ensures.1 ∙ c.clear.ensures.1)
