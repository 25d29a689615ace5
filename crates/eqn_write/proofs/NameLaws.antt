-- The names of a table, as what is written for a symbol.
--     text_size         how long a token's text is
--     part_of            the bytes of a table between two places
--     Lent, name_lent   those of a name that was found lie in the table, and are 1 to 32
--     word_put, wordless     they are written as the symbol's word; without one there is no text
-- That a name has 1 to 32 bytes is a rule of the records, of which the first that is for the symbol is one.
-- Assumes nothing.
use mathlib.Core.Path.{◌≡◌, refl, ap}
use mathlib.Core.List.{List}
use mathlib.Core.Option.{Option, none}
use Prim.Native.Nat.{ℕ, zero, suc, ◌+◌, ◌-◌, ◌≤◌}
use native.Mathlib.Omega.{arith}
use lib.ListN.{length, take, drop}
use lib.Seq.{sets}
use Rattle.std.specs.Prelude.{Some}
use Rattle.eqn_tokens.specs.Tokens.{word, token_bytes}
use Rattle.eqn_names.specs.Names.{Name, Asked, Records, longest_name, first_for, first_place}
use Rattle.eqn_names.specs.declared.Range.{Range}
use Rattle.eqn_names.specs.Values.{NameFound}
use Rattle.eqn_grammar.specs.Grammar.{primary_tokens}
use Rattle.eqn_meaning.specs.Writing.{as_word}
use Rattle.eqn_write.specs.Values.{token_text, Texted, Untexted, HasNames}
use Rattle.eqn_write.specs.Writes.{of_operand}
use Rattle.eqn_write.proofs.PutLaws.{token_put}
use Rattle.eqn_names.proofs.NamesLaws.{records_good, first_is}

pub text_size : (at : ℕ) (w : List ℕ) → (length w ≤ length (token_text at w)) × (length (token_text at w) ≤ length w + 1)
text_size zero w = (omega arith, omega arith)
text_size (suc at) w = (omega arith, omega arith)

abbrev pub part_of : List ℕ → ℕ → ℕ → List ℕ
part_of table start end = take (end - start) (drop start table)

pub record Lent (table : List ℕ) (start end : ℕ) : Type 0 where
  pub in_order : start ≤ end
  pub within : end ≤ length table
  pub some : 1 ≤ length (part_of table start end)
  pub most : length (part_of table start end) ≤ longest_name

pub name_lent : (table : List ℕ) (family code : ℕ) (asked : Asked) (r : Range) → HasNames table →
    ((ns : List Name) → Records table ns → NameFound table (first_for family code asked ns) (first_place family code asked 0 ns) (Some r)) →
    Lent table r.start r.end
name_lent table family code asked r has found =
    let ns = has.0 in
    let f = found ns has.1 in
    let good = records_good has.1 (first_is family code asked ns f.1).member in
    let bytes = ap (λ (w : List ℕ). length w) f.4 in
    record {
      in_order = f.2;
      within = f.3;
      some = omega (arith, good.least);
      most = omega (arith, good.most);
    }

pub word_put : (table : List ℕ) (o : Option Name) (place : ℕ) (r : Range) {at e : ℕ} {before after : List ℕ} → NameFound table o place (Some r) →
    e ≡ at + length (token_text at (part_of table r.start r.end)) → after ≡ sets before at (token_text at (part_of table r.start r.end)) →
    Texted (of_operand (as_word o)) at e before after
unfolding primary_tokens token_bytes
word_put table o place r f ends stored = rw f.1 (token_put (word f.0.bytes) f.4 ends stored)

pub wordless : (o : Option Name) (before : List ℕ) → o ≡ none → Untexted (of_operand (as_word o)) before before
wordless o before f = record { none_are = rw f; as_long = refl }
