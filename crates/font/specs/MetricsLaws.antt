-- What a record says of a symbol.
--     metrics_of_lem                       its metrics, by its four words and its successor
--     successor_some, successor_none   its successor, by its flag
-- Assumes nothing.
use Rattle.std.specs.Prelude.{◌≡◌, Bool, true, false, List, ℕ, drop}
use Rattle.std.proofs.Math.Path.{ap}
use Rattle.std.proofs.Math.Option.{Option, none, some}
use Rattle.std.proofs.Common.{eq-eqb, ne_eqb}
use Rattle.std.proofs.Math.Seq.{drop-drop}
use Rattle.words.specs.Words.{little_endian}
use Rattle.font.specs.Records.{word_bytes, words, metric_words, flag_byte, successor_byte}
use Rattle.font.specs.Font.{metrics_of, successor_of}

module _ (r : List ℕ) where
  -- the words stand one after the other from 7 on
  pub metrics_of_lem : (w h d i : ℕ) (s : Option ℕ) →
      w ≡ little_endian word_bytes (drop 7 r) →
      h ≡ little_endian word_bytes (drop 11 r) →
      d ≡ little_endian word_bytes (drop 15 r) →
      i ≡ little_endian word_bytes (drop 19 r) →
      s ≡ successor_of r →
      record { width = w; height = h; depth = d; italic = i; successor = s } ≡ metrics_of r
  unfolding metrics_of metric_words words
  metrics_of_lem w h d i s ew eh ed ei es =
      let second = drop-drop word_bytes 7 r in
      let third = drop-drop word_bytes 11 r in
      let fourth = drop-drop word_bytes 15 r in
      cc

  by_successor : Bool → Option ℕ
  by_successor b = elim b [ true ↦ some (successor_byte r) | false ↦ none ]

  pub successor_some : flag_byte r ≡ 1 → successor_of r ≡ some (successor_byte r)
  unfolding successor_of by_successor
  successor_some h = ap by_successor (eq-eqb _ _ h)

  pub successor_none : (flag_byte r ≡ 1 → ⊥) → successor_of r ≡ none
  unfolding successor_of by_successor
  successor_none h = ap by_successor (ne_eqb _ _ h)
