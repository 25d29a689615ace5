-- What a search among the records of a table finds.
--     search_named     the record of a word
--     search_first     the first name of a symbol
-- Assumes nothing.
use Rattle.std.specs.Prelude.{◌≡◌, Bool, List, ℕ, ◌<◌, length, drop, Option, Some, None}
use Rattle.std.proofs.Common.{sym, ap, ◌∙◌, arith, length-drop, drop_of_length-le}
use Rattle.std.proofs.Math.Option.{some}
use Rattle.eqn_tokens.specs.Bytes.{same}
use Rattle.eqn_tokens.specs.BytesLaws.{same_is}
use Rattle.eqn_names.specs.declared.Symbol.{Symbol}
use Rattle.eqn_names.specs.declared.Range.{Range}
use Rattle.eqn_names.specs.Names.{Name, named, first_for, first_place, Asked, Records}
use Rattle.eqn_names.specs.Values.{name_as, found_as, NameFound, Stepped}
use Rattle.eqn_names.specs.Search.{Search, ended, stopped, picked, passed}
use Rattle.eqn_names.specs.RecordsLaws.{records_stop, records_none}
use Rattle.eqn_names.proofs.NamesLaws.{is_for, named_first, named_next, first_here, first_next, place_here, place_next}
use Rattle.eqn_names.proofs.WalkLaws.{name_at, name_bytes, step_room, step_stands, step_opened, step_behind}

abbrev pub symbol_in : Option (Range × Symbol) → Option Symbol
symbol_in (Some p) = Some p.1
symbol_in None = None

abbrev pub range_in : Option (Range × Symbol) → Option Range
range_in (Some p) = Some p.0
range_in None = None

-- where there is no record there are no records
none_there : (s : List ℕ) (at : ℕ) {ms : List Name} → at < length s → Stepped (drop at s) None → Records (drop at s) ms → ⊥
none_there s at l f q = let empty = records_stop q f in omega (arith, ap (λ (t : List ℕ). length t) empty, length-drop at s)

module _ (P : List ℕ → Symbol → Bool → Type 0) {s : List ℕ} where
  module _ (word : List ℕ) (tests : (w : List ℕ) (symbol : Symbol) (b : Bool) → P w symbol b → b ≡ same w word) where
    pub search_named : {at : ℕ} {o : Option (Range × Symbol)} → Search P s at o → (ms : List Name) → Records (drop at s) ms →
        found_as word (symbol_in o) ≡ named ms word
    unfolding named
    search_named (ended l) ms q = sym (ap (λ (ns : List Name). named ns word) (records_none q (drop_of_length-le s l)))
    search_named (stopped {at} l f) ms q = absurd (none_there s at l f q)
    search_named (picked {at} r l f p) ms q =
        let o = step_opened s at r l f q in
        let m = name_at s at r in
        let own = sym (tests _ _ _ p) in
        sym
        (ap (λ (ns : List Name). named ns word) o.first
        ∙ named_first m o.rest word own
        ∙ ap (λ (w : List ℕ). some (name_as w r.symbol)) (same_is _ word own))
    search_named (passed {at} r l f p rest) ms q =
        let o = step_opened s at r l f q in
        search_named rest o.rest (step_behind s at r l f q)
        ∙ sym (ap (λ (ns : List Name). named ns word) o.first ∙ named_next (name_at s at r) o.rest word (sym (tests _ _ _ p)))

  module _ (family code : ℕ) (asked : Asked) (tests : (w : List ℕ) (symbol : Symbol) (b : Bool) → P w symbol b → b ≡ is_for family code asked (name_as w symbol)) where
    pub search_first : {at : ℕ} {o : Option (Range × Symbol)} → Search P s at o → (ms : List Name) → Records (drop at s) ms →
        NameFound s (first_for family code asked ms) (first_place family code asked at ms) (range_in o)
    unfolding first_for first_place
    search_first (ended l) ms q = ap (λ (ns : List Name). first_for family code asked ns) (records_none q (drop_of_length-le s l))
    search_first (stopped {at} l f) ms q = absurd (none_there s at l f q)
    search_first (picked {at} r l f p) ms q =
        let o = step_opened s at r l f q in
        let m = name_at s at r in
        let own = sym (tests _ _ _ p) in
        let place : first_place family code asked at ms ≡ at =
        ap (λ (ns : List Name). first_place family code asked at ns) o.first ∙ place_here family code asked at m o.rest own in (
          m,
          ap (λ (ns : List Name). first_for family code asked ns) o.first ∙ first_here family code asked m o.rest own,
          omega arith,
          omega (arith, step_room s at r l f),
          sym (name_bytes s at r.bytes),
          omega (arith, place),
        )
    search_first (passed {at} r l f p rest) ms q =
        let o = step_opened s at r l f q in
        let m = name_at s at r in
        let other = sym (tests _ _ _ p) in
        let name = ap (λ (ns : List Name). first_for family code asked ns) o.first ∙ first_next family code asked m o.rest other in
        let place = ap (λ (ns : List Name). first_place family code asked at ns) o.first ∙ place_next family code asked at m o.rest other
        ∙ ap (λ (i : ℕ). first_place family code asked i o.rest) (step_stands s at r l f q).next in
        rw (name, place) (search_first rest o.rest (step_behind s at r l f q))
