-- The lines by the code's cases: of a refusal, and by whether there is a shift.
-- Assumes nothing.
use mathlib.Core.Path.{◌≡◌, sym, ap}
use mathlib.Core.Bool.{Bool, true, false, cond}
use mathlib.Core.List.{List, [], ◌++◌}
use Prim.Native.Nat.{ℕ, ◌<◌}
use native.Mathlib.Omega.{arith}
use borrow.Author.Tests.{ne_eqb}
use Rattle.answers.specs.Answers.{Answered, accepted_number}
use Rattle.reasons.specs.Reasons.{ShiftReason}
use Rattle.texts.specs.Decimals.{text_of}
use Rattle.texts.specs.Refusals.{newline, refusal_text}
use Rattle.listing.specs.Texts.{sizes_text, answer_text, reason_mark, is_there, shift_text}

module _ (a : Answered) where
  abbrev by : Bool → List ℕ
  by t = cond t (sizes_text a.size a.count) (refusal_text a.number a.place)

  pub refused_line : 0 < a.number → refusal_text a.number a.place ≡ answer_text a
  unfolding answer_text
  refused_line more = sym (ap by (ne_eqb a.number accepted_number (λ e. omega arith)))

module _ (mark : List ℕ) (d : ShiftReason) where
  abbrev shown : Bool → List ℕ
  shown t = cond t (mark ++ reason_mark d.by ++ text_of d.shift ++ newline) []

  pub shift_shown : is_there d.by ≡ true → mark ++ reason_mark d.by ++ text_of d.shift ++ newline ≡ shift_text mark d
  unfolding shift_text
  shift_shown e = sym (ap shown e)

  pub shift_absent : is_there d.by ≡ false → [] ≡ shift_text mark d
  unfolding shift_text
  shift_absent e = sym (ap shown e)
