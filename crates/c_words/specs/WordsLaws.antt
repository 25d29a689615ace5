-- Words stored at the front of a lent answer, and the words that a caller finds.
--     enough, short                what an answer with room, and one without, makes of a result, of the words or of a buffer
--     two_stores, five_stores      the stores, one after the other
--     kept                         a word that was stored is read back as it was; `count_kept`, the same of a place or a count
--     reported                     the number and the words that a caller is given of a report are those of the answer that it reports
-- Assumes nothing.
use Rattle.std.specs.Prelude.{◌≡◌, refl, List, [], ◌∷◌, ℕ, ◌≤◌, ◌<◌, ℤ, pos, length, drop, set}
use Rattle.std.proofs.Common.{ap, ◌∙◌, arith, le-leb, SFits, to_z, of_z}
use Rattle.std.proofs.lemmas.Bool.{lt-leb}
use Rattle.std.specs.Int.{w64}
use Rattle.std.proofs.lemmas.Int.{to_z-of_z}
use Rattle.formula.specs.Format.{formula_limit}
use Rattle.results.specs.declared.Report.{Report}
use Rattle.results.specs.Results.{Answered}
use Rattle.results.specs.Values.{report_as}
use Rattle.c_words.specs.Words.{answer_space, report_space, if_space, report_words}

module _ {space : ℕ} {A : Type 0} (w : List ℤ) (a b : A) where
  pub enough : space ≤ length w → a ≡ if_space space w a b
  unfolding if_space
  enough h = rw (le-leb space (length w) h)

  pub short : length w < space → b ≡ if_space space w a b
  unfolding if_space
  short h = rw (lt-leb space (length w) h)

pub two_stores : (w : List ℤ) (a b : ℤ) → report_space ≤ length w → set (set w 0 a) 1 b ≡ a ∷ b ∷ drop report_space w
two_stores [] a b h = absurd (omega arith)
two_stores (_ ∷ []) a b h = absurd (omega arith)
two_stores (_ ∷ _ ∷ w) a b h = refl

pub five_stores : (w : List ℤ) (a b c d e : ℤ) → answer_space ≤ length w →
    set (set (set (set (set w 0 a) 1 b) 2 c) 3 d) 4 e ≡ a ∷ b ∷ c ∷ d ∷ e ∷ drop answer_space w
five_stores [] a b c d e h = absurd (omega arith)
five_stores (_ ∷ []) a b c d e h = absurd (omega arith)
five_stores (_ ∷ _ ∷ []) a b c d e h = absurd (omega arith)
five_stores (_ ∷ _ ∷ _ ∷ []) a b c d e h = absurd (omega arith)
five_stores (_ ∷ _ ∷ _ ∷ _ ∷ []) a b c d e h = absurd (omega arith)
five_stores (_ ∷ _ ∷ _ ∷ _ ∷ _ ∷ w) a b c d e h = refl

pub kept : (z : ℤ) → SFits w64 z → to_z w64 (of_z w64 z) ≡ z
kept z h = to_z-of_z w64 z h

pub count_kept : (n : ℕ) → n ≤ formula_limit → to_z w64 (of_z w64 (pos n)) ≡ pos n
count_kept n h = kept (pos n) (record { sfits = omega arith })

pub reported : (report : Report) (a : Answered) → report_as report ≡ a → (before : List ℤ) {number : ℕ} {after : List ℤ} →
    (number ≡ report.number) × (after ≡ report_words (report_as report) before) → (number ≡ a.number) × (after ≡ report_words a before)
reported report a is before r = (r.0 ∙ ap (λ (x : Answered). x.number) is, r.1 ∙ ap (λ (x : Answered). report_words x before) is)
