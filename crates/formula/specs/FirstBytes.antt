-- Code goes by a list's length and reads its first bytes, where the definitions go by the list's cases.
--     one, two, four    a list that is long enough, as its first bytes and the rest
--     short_one ..      a function that says the same of every shorter list
--     past              nothing stands past the end of a list of values
-- Assumes nothing.
use Rattle.std.specs.Prelude.{◌≡◌, refl, List, [], ◌∷◌, ℕ, zero, suc, ◌≤◌, ◌<◌, length, drop, get_or}
use Rattle.std.proofs.Math.Option.{none}
use Rattle.std.proofs.Common.{arith}
use Rattle.std.proofs.Math.ListN.{get_elem?}

pub one : (s : List ℕ) → 1 ≤ length s → s ≡ get_or s 0 0 ∷ drop 1 s
one [] h = absurd (omega arith)
one (a ∷ s) h = refl

pub two : (s : List ℕ) → 2 ≤ length s → s ≡ get_or s 0 0 ∷ get_or s 1 0 ∷ drop 2 s
two [] h = absurd (omega arith)
two (a ∷ []) h = absurd (omega arith)
two (a ∷ b ∷ s) h = refl

pub four : (s : List ℕ) → 4 ≤ length s → s ≡ get_or s 0 0 ∷ get_or s 1 0 ∷ get_or s 2 0 ∷ get_or s 3 0 ∷ drop 4 s
four [] h = absurd (omega arith)
four (a ∷ []) h = absurd (omega arith)
four (a ∷ b ∷ []) h = absurd (omega arith)
four (a ∷ b ∷ c ∷ []) h = absurd (omega arith)
four (a ∷ b ∷ c ∷ d ∷ s) h = refl

module _ {A : Type 0} (f : List ℕ → A) (x : A) where
  pub short_one : f [] ≡ x → (s : List ℕ) → length s ≡ 0 → f s ≡ x
  short_one e [] h = e
  short_one e (a ∷ s) h = absurd (omega arith)

  pub short_two : f [] ≡ x → ((a : ℕ) → f (a ∷ []) ≡ x) → (s : List ℕ) → length s < 2 → f s ≡ x
  short_two e g [] h = e
  short_two e g (a ∷ []) h = g a
  short_two e g (a ∷ b ∷ s) h = absurd (omega arith)

  pub short_four : f [] ≡ x → ((a : ℕ) → f (a ∷ []) ≡ x) → ((a b : ℕ) → f (a ∷ b ∷ []) ≡ x) →
      ((a b c : ℕ) → f (a ∷ b ∷ c ∷ []) ≡ x) → (s : List ℕ) → length s < 4 → f s ≡ x
  short_four e g h k [] l = e
  short_four e g h k (a ∷ []) l = g a
  short_four e g h k (a ∷ b ∷ []) l = h a b
  short_four e g h k (a ∷ b ∷ c ∷ []) l = k a b c
  short_four e g h k (a ∷ b ∷ c ∷ d ∷ s) l = absurd (omega arith)

pub past : {A : Type 0} (l : List A) (n : ℕ) → length l ≤ n → get_elem? l n ≡ none
past [] n h = refl
past (a ∷ l) zero h = absurd (omega arith)
past (a ∷ l) (suc n) h = past l n (omega arith)
