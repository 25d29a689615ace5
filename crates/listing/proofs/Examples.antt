-- Worked examples of the text, each by computation. Assumes nothing.
use mathlib.Core.Path.{◌≡◌, refl}
use mathlib.Core.List.{[], ◌∷◌}
use lib.IntN.{pos, negsuc}
use Rattle.scaled.specs.Length.{pick, max_ℤ}
use Rattle.words.specs.Words.{little_endian, signed_word, word_of, four_bytes}
use Rattle.nodes.specs.Nodes.{glyph, rule, signed_bytes, node_bytes}
use Rattle.nodes.specs.Stored.{node_in}
use Rattle.answers.specs.Answers.{refusal}
use Rattle.texts.specs.Decimals.{digits_by, decimal_of}
use Rattle.listing.specs.Texts.{answer_text, node_text}

-- `w 500 h 430 d 200 n 2`
accepted :
    answer_text (record { number = 0; place = 0; size = record { width = pos 500; height = pos 430; depth = pos 200 }; count = 2 })
    ≡ 119 ∷ 32 ∷ 53 ∷ 48 ∷ 48 ∷ 32 ∷ 104 ∷ 32 ∷ 52 ∷ 51 ∷ 48 ∷ 32 ∷ 100 ∷ 32 ∷ 50 ∷ 48 ∷ 48 ∷ 32 ∷ 110 ∷ 32 ∷ 50 ∷ 10 ∷ []
unfolding digits_by decimal_of answer_text
accepted = refl

-- `refused 5 at 4`
refused : answer_text (refusal 5 4) ≡ 114 ∷ 101 ∷ 102 ∷ 117 ∷ 115 ∷ 101 ∷ 100 ∷ 32 ∷ 53 ∷ 32 ∷ 97 ∷ 116 ∷ 32 ∷ 52 ∷ 10 ∷ []
unfolding digits_by decimal_of answer_text
refused = refl

-- `glyph -5 430 0 1 65`, from the node's bytes
glyph_shown : node_text (node_in (node_bytes (glyph (negsuc 4) (pos 430) 0 1 65))) ≡ 103 ∷ 108 ∷ 121 ∷ 112 ∷ 104 ∷ 32 ∷ 45 ∷ 53 ∷ 32 ∷ 52 ∷ 51 ∷ 48 ∷ 32 ∷ 48 ∷ 32 ∷ 49 ∷ 32 ∷ 54 ∷ 53 ∷ 10 ∷ []
unfolding digits_by decimal_of node_text node_in node_bytes signed_bytes four_bytes word_of little_endian signed_word pick
glyph_shown = refl

-- `rule 0 -20 500 40`
rule_shown : node_text (node_in (node_bytes (rule (pos 0) (negsuc 19) (pos 500) (pos 40)))) ≡ 114 ∷ 117 ∷ 108 ∷ 101 ∷ 32 ∷ 48 ∷ 32 ∷ 45 ∷ 50 ∷ 48 ∷ 32 ∷ 53 ∷ 48 ∷ 48 ∷ 32 ∷ 52 ∷ 48 ∷ 10 ∷ []
unfolding digits_by decimal_of node_text node_in node_bytes signed_bytes four_bytes word_of little_endian signed_word pick max_ℤ
rule_shown = refl
