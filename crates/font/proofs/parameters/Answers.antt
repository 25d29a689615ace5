-- `parameters` has the row of each of the three sizes, and beyond them both sides are 0.
use mathlib.Core.Path.{◌≡◌, sym, ap, ◌∙◌}
use mathlib.Core.List.{List, [], ◌∷◌}
use Prim.Native.Nat.{ℕ, zero, suc, ◌≤◌}
use native.Mathlib.Omega.{arith}
use lib.ListN.{get_or, get_or-eq_default}
use Rattle.font.specs.Records.{size_count}
use Rattle.font.specs.Font.{font_of}
use Rattle.font.proofs.WordLaws.{size_beyond}
use Rattle.font.proofs.parameters.Goals as goal

-- what holds of each of the three sizes, and beyond them
each_size : (P : ℕ → Type 0) → P 0 → P 1 → P 2 → ((size : ℕ) → size_count ≤ size → P size) → (size : ℕ) → P size
each_size P text script scriptscript beyond zero = text
each_size P text script scriptscript beyond (suc zero) = script
each_size P text script scriptscript beyond (suc (suc zero)) = scriptscript
each_size P text script scriptscript beyond (suc (suc (suc size))) = beyond (suc (suc (suc size))) (omega arith)

pub returns : goal.returns
returns c =
    let table = c.args.table.now in
    let font = font_of table in
    let rows = c.row-text.result ∷ c.row-script.result ∷ c.row-scriptscript.result ∷ [] in
    record {
      held = λ size number.
          each_size (λ (size : ℕ). get_or (get_or rows size []) number 0 ≡ font.parameter size number)
          (c.row-text.ensures.held number)
          (c.row-script.ensures.held number)
          (c.row-scriptscript.ensures.held number)
          (λ size h. ap (λ (row : List ℕ). get_or row number 0) (get_or-eq_default rows [] {n = size} (omega arith)) ∙ sym (size_beyond table size number h))
          size;
    }
