-- What the code gives, in the definitions' words.
--     numbered    what a number stands for in a table of classes, of limits or of bars
--     numbered_some, numbered_none    what follows from it
--     told        what the reader says of a list that it read, of which it makes no tree: that it is good, or its first fault
-- Assumes nothing.
use Rattle.std.specs.Prelude.{◌≡◌, refl, ℕ, List, Result, Ok, Err}
use Rattle.std.proofs.Common.{arith}
use Rattle.std.proofs.Math.Option.{Option, none, some}
use Rattle.std.proofs.Math.ListN.{get_elem?}
use Rattle.formula.specs.declared.UnknownNumber.{UnknownNumber}
use Rattle.formula.specs.declared.Fault.{Fault}
use Rattle.formula.specs.declared.FaultAt.{FaultAt}
use Rattle.formula.specs.Reading.{Read, good, fault}

abbrev pub number_as : {A : Type 0} → ℕ → Option A → Result A UnknownNumber
number_as n (some a) = Ok a
number_as n none = Err (record { 0 = n })

abbrev pub numbered : {A : Type 0} → List A → ℕ → Result A UnknownNumber
numbered table n = number_as n (get_elem? table n)

module _ {A : Type 0} (table : List A) (n : ℕ) where
  pub numbered_some : (a : A) → Ok a ≡ numbered table n → get_elem? table n ≡ some a
  numbered_some a e = go (get_elem? table n) e
    where
      go : (o : Option A) → Ok a ≡ number_as n o → o ≡ some a
      go (some b) e = cc
      go none e = let z : ◌≡◌ {A = ℕ} 0 1 = cc in absurd (omega arith)

  pub numbered_none : (x : UnknownNumber) → Err x ≡ numbered table n → get_elem? table n ≡ none
  numbered_none x e = go (get_elem? table n) e
    where
      go : (o : Option A) → Err x ≡ number_as n o → o ≡ none
      go (some b) e = let z : ◌≡◌ {A = ℕ} 0 1 = cc in absurd (omega arith)
      go none e = refl

abbrev pub fault_at : Fault → ℕ → FaultAt
fault_at why place = record { fault = why; place = place }

unfoldable pub told : Read → Result (Unit {0}) FaultAt
told (good l) = Ok tt
told (fault why place) = Err (fault_at why place)
