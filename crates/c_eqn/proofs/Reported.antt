-- A report of what was written is small: its place and its size fit a word of C.
-- Assumes nothing.
use mathlib.Core.Path.{◌≡◌, ap}
use mathlib.Core.Logic.{⊎_elim, inl}
use mathlib.Core.List.{List}
use Prim.Native.Nat.{ℕ, ◌^◌, ◌<◌}
use native.Mathlib.Omega.{arith}
use lib.ListN.{length}
use Rattle.results.specs.declared.Report.{Report}
use Rattle.results.specs.Results.{Result, refused, Answered, answer_by}
use Rattle.results.specs.ResultsLaws.{answer_bytes, answer_place}
use Rattle.results.specs.Values.{report_as}
use Rattle.eqn_meaning.specs.Answers.{no_room}
use Rattle.eqn_meaning.proofs.ResultLaws.{Within}

module _ (table text : List ℕ) (room : ℕ) (result : Result) (places : (n p : ℕ) → result ≡ refused n p → Within table text p) (report : Report)
    (is : report_as report ≡ answer_by no_room room result) where
  place_fits : {place : ℕ} → length table < 2 ^ 63 → length text < 2 ^ 63 → Within table text place → place < 2 ^ 63
  place_fits a b w = ⊎_elim (λ h. omega arith) (λ h. omega arith) w

  pub small : length table < 2 ^ 63 → length text < 2 ^ 63 → room < 2 ^ 63 → (report.place < 2 ^ 63) × (report.bytes < 2 ^ 63)
  small a b h =
      let place = ap (λ (r : Answered). r.place) is in
      let bytes = ap (λ (r : Answered). r.bytes) is in
      let within = answer_place (Within table text) (inl (omega arith)) no_room room result places in
      (omega (arith, place_fits a b within), omega (arith, answer_bytes no_room room result))
