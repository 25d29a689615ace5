-- The places that are answered lie within what was read.
--     place_within     the place of a token, or of the end of a text
--     table_within     the place of a bad record of a table
-- Assumes nothing.
use Rattle.std.specs.Prelude.{◌≡◌, refl, Bool, true, false, List, [], ◌∷◌, ◌++◌, ℕ, zero, suc, ◌+◌, ◌≤◌, length, drop}
use Rattle.std.proofs.Math.Option.{Option, none, some}
use Rattle.std.proofs.Common.{arith, length-drop}
use Rattle.eqn_tokens.specs.Bytes.{is_separator, is_word_byte}
use Rattle.eqn_tokens.specs.Tokens.{place_from, run_length}
use Rattle.eqn_names.specs.Names.{Name, Table, bad_at, front_name, record_bytes, is_new, record_then, table_step, table_by, table_of}
use Rattle.eqn_names.specs.RecordsLaws.{front_is, fronts_size}

-- by what is known of the bytes behind the first, however many of them are of its token
byte_within : (b : ℕ) (s : List ℕ) → ((k n : ℕ) → place_from k n s ≤ length s) → (k n : ℕ) → place_from k n (b ∷ s) ≤ suc (length s)
unfolding place_from
byte_within b s ih (suc k) n = omega (arith, ih k n)
byte_within b s ih zero n = go (is_separator b) n
  where
    go : (t : Bool) (n : ℕ) → elim t [
      | true ↦ suc (place_from zero n s)
      | false ↦ elim n [ zero ↦ 0 | suc m ↦ suc (place_from (elim (is_word_byte b) [ true ↦ run_length s | false ↦ 0 ]) m s) ]
    ] ≤ suc (length s)
    go true n = omega (arith, ih zero n)
    go false zero = omega arith
    go false (suc m) = omega (arith, ih (elim (is_word_byte b) [ true ↦ run_length s | false ↦ 0 ]) m)

pub place_within : (k n : ℕ) (s : List ℕ) → place_from k n s ≤ length s
unfolding place_from
place_within k n [] = omega arith
place_within k n (b ∷ s) = byte_within b s (λ j m. place_within j m s) k n

-- the rest of a table, by what is known of what stands behind its first record
abbrev WithinBy : (List Name → ℕ → List ℕ → Table) → Type 0
WithinBy R = (before : List Name) (at : ℕ) (s : List ℕ) (p : ℕ) → R before at s ≡ bad_at p → p ≤ at + length s

new_within : (R : List Name → ℕ → List ℕ → Table) → WithinBy R → (before : List Name) (at : ℕ) (s : List ℕ) (m : Name) → record_bytes m ≤ length s →
    (t : Bool) (p : ℕ) → elim t [ true ↦ R (before ++ (m ∷ [])) (at + record_bytes m) (drop (record_bytes m) s) | false ↦ bad_at at ] ≡ bad_at p →
    p ≤ at + length s
new_within R ih before at s m h true p e = omega (arith, ih _ _ _ p e, length-drop (record_bytes m) s)
new_within R ih before at s m h false p e = let q : at ≡ p = cc in omega arith

step_within : (R : List Name → ℕ → List ℕ → Table) → WithinBy R → WithinBy (table_step R)
unfolding table_step record_then
step_within R ih before at [] p e = let no : ◌≡◌ {A = ℕ} 0 1 = cc in absurd (omega arith)
step_within R ih before at (b ∷ s) p e = go (front_name (b ∷ s)) refl e
  where
    go : (o : Option Name) → front_name (b ∷ s) ≡ o → record_then R before at (b ∷ s) o ≡ bad_at p → p ≤ at + length (b ∷ s)
    go none q e = let is : at ≡ p = cc in omega arith
    go (some m) q e = new_within R ih before at (b ∷ s) m (fronts_size (front_is (b ∷ s) m q)) (is_new before m) p e

by_within : (k : ℕ) → WithinBy (table_by k)
unfolding table_by
by_within zero before at s p e = let is : at ≡ p = cc in omega arith
by_within (suc k) before at s p e = step_within (table_by k) (by_within k) before at s p e

pub table_within : (s : List ℕ) (p : ℕ) → table_of s ≡ bad_at p → p ≤ length s
unfolding table_of
table_within s p e = omega (arith, by_within (suc (length s)) [] 0 s p e)
