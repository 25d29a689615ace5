-- What the proof of functions that call each other claims of each of them.
--     at       of the function that is proved: its measure is t, and what it asks for holds
--     below    of one that it calls: its measure is less than t, and what it asks for holds
-- Assumes nothing.
use Rattle.std.specs.Prelude.{List, ℕ, ◌<◌}
use borrow.Fn.Kinds.{ParamKind, In}
use borrow.Fn.PlainCycle.{Measures, is, falls, and}

abbrev pub at : (n : ℕ) (ps : List (ParamKind n)) → Measures n ps ℕ → In n ps → ℕ → In n ps
at n ps μ asked t = and n ps (is n ps μ t) asked

abbrev pub below : (n : ℕ) (ps : List (ParamKind n)) → Measures n ps ℕ → In n ps → ℕ → In n ps
below n ps μ asked t = and n ps (falls n ps ◌<◌ μ t) asked
