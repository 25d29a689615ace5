-- The test of a table, one record after the other.
--     Tested          the records before a place are good, and the table is what it is from there on; with its start and its turn
--     tested_bad, tested_old, tested_all     where the test ends: no record, an old one, or the table's end
--     Told            the answer, and what is known of a good table
-- Assumes nothing.
use mathlib.Core.Path.{◌≡◌, refl, sym, ap, ◌∙◌}
use mathlib.Core.Bool.{true, false}
use mathlib.Core.List.{List, [], ◌∷◌, ◌++◌}
use mathlib.Core.Option.{none}
use Prim.Native.Nat.{ℕ, suc, ◌+◌, ◌-◌, ◌≤◌, ◌<◌}
use native.Mathlib.Omega.{arith}
use lib.ListN.{length, take, drop, length-drop, drop_of_length-le}
use lib.Seq.{drop-drop}
use Rattle.std.specs.Prelude.{Result, Ok, Err}
use Rattle.eqn_names.specs.declared.BadRecord.{BadRecord}
use Rattle.eqn_names.specs.declared.Record.{Record}
use Rattle.eqn_names.specs.Names.{Name, front_name, record_bytes, is_new, names, table_step, table_by, table_of, Records, ended}
use Rattle.eqn_names.specs.Values.{table_told}
use Rattle.eqn_names.specs.RecordsLaws.{records_more}
use Rattle.eqn_names.proofs.NamesLaws.{table_bad, table_old, table_next}
use Rattle.eqn_names.proofs.WalkLaws.{name_at, Stands}

abbrev bad : ℕ → Result (Unit {0}) BadRecord
bad at = Err (record { place = at })

module _ (s : List ℕ) where
  -- `fuel` is how many more records the definition would read
  pub record Tested (at : ℕ) (before : List Name) : Type 0 where
    pub within : at ≤ length s
    pub records : Records (take at s) before
    pub fuel : ℕ
    pub enough : length s ≤ at + fuel
    pub rest : table_of s ≡ table_by (suc fuel) before at (drop at s)

  pub tested_none : Tested 0 []
  unfolding table_of
  tested_none = record { within = omega arith; records = ended; fuel = length s; enough = omega arith; rest = refl }

  module _ {at : ℕ} {before : List Name} (t : Tested at before) where
    pub tested_next : {r : Record} → Stands s at r → is_new before (name_at s at r) ≡ true →
        Tested (at + 1 + r.bytes + 3) (before ++ (name_at s at r ∷ []))
    tested_next {r} f new =
        let m = name_at s at r in
        let more : t.fuel ≡ suc (t.fuel - 1) = omega (arith, f.room, t.enough) in
        let behind : drop (record_bytes m) (drop at s) ≡ drop (at + 1 + r.bytes + 3) s = drop-drop (record_bytes m) at s ∙ ap (λ (i : ℕ). drop i s) f.next in
        record {
          within = f.room;
          records = rw f.next at (records_more at s t.records f.there);
          fuel = t.fuel - 1;
          enough = omega (arith, t.enough, f.room);
          rest = t.rest ∙ table_next t.fuel at before (drop at s) f.there new ∙ rw (behind, f.next, ← more);
        }

    pub tested_bad : at < length s → front_name (drop at s) ≡ none → bad at ≡ table_told (table_of s)
    tested_bad l e = sym (ap table_told (t.rest ∙ table_bad t.fuel at before (drop at s) (omega (arith, length-drop at s)) e))

    pub tested_old : {r : Record} → Stands s at r → is_new before (name_at s at r) ≡ false →
        bad at ≡ table_told (table_of s)
    tested_old f old = sym (ap table_told (t.rest ∙ table_old t.fuel at before (drop at s) f.there old))

    pub tested_all : length s ≤ at → table_of s ≡ names before
    unfolding table_by table_step
    tested_all l = t.rest ∙ ap (table_by (suc t.fuel) before at) (drop_of_length-le s l)

-- ---- what the code answers

-- with what is known of a table if it is good
abbrev pub Told : List ℕ → (List Name → Type 0) → Result (Unit {0}) BadRecord → Type 0
Told s Known r = (r ≡ table_told (table_of s)) × ((ns : List Name) → table_of s ≡ names ns → Known ns)

good_bad : {at : ℕ} → bad at ≡ Ok tt → ⊥
good_bad e = let never : ◌≡◌ {A = ℕ} 0 1 = cc in omega arith

pub told_bad : (s : List ℕ) {Known : List Name → Type 0} {at : ℕ} → bad at ≡ table_told (table_of s) → Told s Known (bad at)
told_bad s e = (e, λ ns good. absurd (good_bad (e ∙ ap table_told good)))

pub told_good : (s : List ℕ) (Known : List Name → Type 0) {ns : List Name} → table_of s ≡ names ns → Known ns → Told s Known (Ok tt)
told_good s Known {ns} e known = (sym (ap table_told e), λ ms good. let is : ns ≡ ms = (let both = sym e ∙ good in cc) in rw is at known)
