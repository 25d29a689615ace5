-- Where the search for a word may begin: for each hash, the place of the first record whose name has it.
--     From s ns w at     what a word is among some names, it is among the records from a place on
--     Firsts s ns f      each word may be looked for from the place that f has for its hash
--     Listed s f ns      the records of a table, with such places
--     kept f h at        a place is kept for a hash, unless an earlier one is
-- Nothing depends on how the hash is made, but that it is made of the bytes alone.
-- Assumes nothing.
use Rattle.std.specs.Prelude.{◌≡◌, true, false, List, [], ◌∷◌, ℕ, ◌+◌, ◌*◌, ◌%◌, ltb, drop, get_or, set}
use Rattle.eqn_names.specs.Names.{Name, named, Records}

-- so many hashes there are
abbrev pub places : ℕ
places = 4096

abbrev pub mix : ℕ → ℕ → ℕ
mix h b = (h * 31 + b) % places

unfoldable pub hash_from : ℕ → List ℕ → ℕ
hash_from h [] = h
hash_from h (b ∷ s) = hash_from (mix h b) s

abbrev pub hash_of : List ℕ → ℕ
hash_of s = hash_from 0 s

abbrev pub From : List ℕ → List Name → List ℕ → ℕ → Type 0
From s ns w at = (ms : List Name) × Records (drop at s) ms × (named ns w ≡ named ms w)

abbrev pub Firsts : List ℕ → List Name → List ℕ → Type 0
Firsts s ns f = (w : List ℕ) → From s ns w (get_or f (hash_of w) 0)

abbrev pub kept : List ℕ → ℕ → ℕ → List ℕ
kept f h at = elim (ltb at (get_or f h 0)) [ true ↦ set f h at | false ↦ f ]

-- the records of a table, and where each word may be looked for among them
pub record Listed (s f : List ℕ) (ns : List Name) : Type 0 where
  pub records : Records s ns
  pub firsts : Firsts s ns f
