-- A pass over a text that keeps the stages of some levels of braces: those from `base` on, `levels` of them.
--     slot_of, is_seen     a level's place among those that are kept; all others share the one behind them, and are unseen
--     fault_level s       in how many braces the reading of a text gets stuck, or ends
--     right_answer s      what the test of a text has to answer
--     NotBefore          an answer that gives no place before the right one
--     Passed s base r    what a pass promises: never a place before the right one, and the right one where its level is seen
-- Assumes nothing.
use Rattle.std.specs.Prelude.{◌≡◌, Bool, true, cond, List, [], ◌∷◌, ℕ, ◌-◌, ◌≤◌, ltb, length}
use Rattle.std.proofs.Math.Option.{Option, none, some}
use Rattle.eqn_tokens.specs.Tokens.{Token, tokens_in}
use Rattle.eqn_grammar.specs.Parsing.{Reading, read, begun, parse}
use Rattle.std.specs.Prelude.{Ok, Err}
use Rattle.eqn_check.specs.Values.{Tested, tested_as}
use Rattle.eqn_check.specs.declared.stages.Stage.{Stage}
use Rattle.eqn_check.specs.declared.stages.Stage.TheVariants.{Start}
use Rattle.eqn_check.specs.declared.windows.PassResult.{PassResult}
use Rattle.eqn_check.specs.Stages.{seen_as}

-- ---- the levels that are seen

abbrev pub levels : ℕ
levels = 4096

unfoldable pub slot_of : ℕ → ℕ → ℕ
slot_of base d = cond (ltb d base) levels (cond (ltb (d - base) levels) (d - base) levels)

abbrev pub is_seen : ℕ → ℕ → Bool
is_seen base d = ltb (slot_of base d) levels

-- a row that begins at a level
abbrev pub fresh_of : ℕ → ℕ → Stage
fresh_of base d = seen_as (is_seen base d) Start

-- ---- the right answer

abbrev pub right_answer : List ℕ → Tested
right_answer s = tested_as s (parse (tokens_in s))

abbrev pub level_then : (Reading → ℕ) → ℕ → Option Reading → ℕ
level_then R d none = d
level_then R d (some st) = R st

unfoldable pub level_from : Reading → List Token → ℕ
level_from st [] = length st.around
level_from st (t ∷ ts) = level_then (λ after. level_from after ts) (length st.around) (read st t)

abbrev pub fault_level : List ℕ → ℕ
fault_level s = level_from begun (tokens_in s)

-- ---- answers

abbrev pub NotBefore : Tested → Tested → Type 0
NotBefore (Ok u) (Ok v) = Unit {0}
NotBefore (Ok u) (Err p) = ⊥
NotBefore (Err q) (Ok v) = Unit {0}
NotBefore (Err q) (Err p) = q.place ≤ p.place

abbrev pub earlier_of : Tested → Tested → Tested
earlier_of (Ok u) b = b
earlier_of (Err i) (Ok v) = Err i
earlier_of (Err i) (Err j) = cond (ltb j.place i.place) (Err j) (Err i)

pub record Passed (s : List ℕ) (base : ℕ) (r : PassResult) : Type 0 where
  pub not_before : NotBefore (right_answer s) r.fault
  pub exact : is_seen base (fault_level s) ≡ true → r.fault ≡ right_answer s
  pub deep : fault_level s ≤ r.deepest
  pub within : r.deepest ≤ length s
