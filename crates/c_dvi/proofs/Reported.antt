-- A report of what was written is small: its place and its size fit a word of C.
-- Assumes nothing.
use mathlib.Core.Path.{◌≡◌, ap, ◌∙◌}
use mathlib.Core.List.{List}
use Prim.Native.Nat.{ℕ, ◌^◌, ◌<◌}
use native.Mathlib.Omega.{arith}
use Rattle.results.specs.declared.Report.{Report}
use Rattle.results.specs.Results.{Answered}
use Rattle.results.specs.Values.{report_as}
use Rattle.dvi.specs.declared.forms.Form.{Form}
use Rattle.dvi.specs.Answers.{answering}
use Rattle.dvi.specs.AnswerLaws.{answer_within, place_zero}

module _ (from : Form) (s : List ℕ) (room : ℕ) (report : Report) (is : report_as report ≡ answering from s room) where
  pub small : room < 2 ^ 63 → (report.place < 2 ^ 63) × (report.bytes < 2 ^ 63)
  small h =
      let place = ap (λ (a : Answered). a.place) is ∙ place_zero from s room in
      let bytes = ap (λ (a : Answered). a.bytes) is in
      (omega arith, omega (arith, answer_within from s room))
