-- What the code's slices of a formula hold, in the definitions' words.
--     tail_part     `&s[k..]`
--     field_part_lem    `&s[start..end]`, the n bytes of the items of a list field whose kind byte stands at `at`
--     delimiter_at   the delimiter whose four bytes stand at `at`
-- Assumes nothing.
use Rattle.std.specs.Prelude.{◌≡◌, List, ℕ, ◌+◌, ◌-◌, length, take, drop, get_or}
use Rattle.std.proofs.Common.{arith, length-drop, take_all, drop-drop}
use Rattle.formula.specs.declared.Delimiter.{Delimiter}
use Rattle.formula.specs.Heads.{delimiter}
use Rattle.formula.specs.Places.{contents}

pub tail_part : (s : List ℕ) (k : ℕ) → take (length s - k) (drop k s) ≡ drop k s
tail_part s k = take_all (length s - k) (drop k s) (omega (arith, length-drop k s))

pub field_part_lem : (s : List ℕ) (at opening n : ℕ) →
    let start = at + opening in
    take (start + n - start) (drop start s) ≡ contents opening n (drop at s)
field_part_lem s at opening n =
    let e : at + opening + n - (at + opening) ≡ n = omega arith in
    rw (e, drop-drop)

abbrev pub delimiter_at : List ℕ → ℕ → Delimiter
delimiter_at s at = delimiter (get_or s at 0) (get_or s (at + 1) 0) (get_or s (at + 2) 0) (get_or s (at + 3) 0)
