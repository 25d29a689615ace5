-- The answers of several passes together.
--     Least          the least place that the passes below a level have found: never before the right one, and the right one where its level
--                    is below
--     least_first, least_next     its start, and one pass more
-- Assumes nothing.
use mathlib.Core.Path.{◌≡◌, refl, ap}
use mathlib.Core.List.{List}
use Prim.Native.Nat.{ℕ, ◌+◌, ◌<◌}
use native.Mathlib.Omega.{arith}
use borrow.Author.Tests.{ltb-true, ltb-false, le-ltb}
use lib.Dec.{ltb}
use Rattle.laws.specs.Truths.{by_test}
use Rattle.std.specs.Prelude.{Ok, Err}
use Rattle.eqn_check.specs.Values.{Tested, stuck_at}
use Rattle.eqn_check.specs.declared.windows.PassResult.{PassResult}
use Rattle.eqn_check.specs.Windows.{levels, right_answer, fault_level, NotBefore, earlier_of, Passed}
use Rattle.eqn_check.proofs.Slots.{seen_window}

pub record Least (s : List ℕ) (base : ℕ) (least : Tested) : Type 0 where
  pub not_before : NotBefore (right_answer s) least
  pub exact : fault_level s < base → least ≡ right_answer s

earlier_either : (P : Tested → Type 0) (a b : Tested) → P a → P b → P (earlier_of a b)
earlier_either P (Ok u) b p q = q
earlier_either P (Err i) (Ok v) p q = p
earlier_either P (Err i) (Err j) p q = by_test (ltb j.place i.place) (λ e. rw e q) (λ e. rw e p)

earlier_left : (x b : Tested) → NotBefore x b → earlier_of x b ≡ x
earlier_left (Ok u) (Ok v) l = refl
earlier_left (Ok u) (Err p) l = absurd l
earlier_left (Err q) (Ok v) l = refl
earlier_left (Err q) (Err p) l = rw (le-ltb p.place q.place l)

earlier_right : (x a : Tested) → NotBefore x a → earlier_of a x ≡ x
earlier_right x (Ok u) l = refl
earlier_right (Ok u) (Err i) l = absurd l
earlier_right (Err q) (Err i) l =
    by_test (ltb q.place i.place) (λ e. rw e) (λ e. rw e (ap stuck_at (omega (arith, ltb-false q.place i.place e))))

pub least_first : {s : List ℕ} {r : PassResult} → Passed s 0 r → Least s levels r.fault
least_first {s} p = record { not_before = p.not_before; exact = λ l. p.exact (seen_window 0 (fault_level s) (omega arith) (omega arith)) }

pub least_next : {s : List ℕ} {base : ℕ} {least : Tested} {r : PassResult} → Least s base least → Passed s base r → Least s (base + levels) (earlier_of least r.fault)
least_next {s} {base} {least} {r} so_far p =
    record {
      not_before = earlier_either (NotBefore (right_answer s)) least r.fault so_far.not_before p.not_before;
      exact =
          λ l.
          by_test (ltb (fault_level s) base)
          (λ e. rw (so_far.exact (ltb-true (fault_level s) base e)) (earlier_left (right_answer s) r.fault p.not_before))
          (λ e.
          rw (p.exact (seen_window base (fault_level s) (ltb-false (fault_level s) base e) l))
          (earlier_right (right_answer s) least so_far.not_before));
    }
