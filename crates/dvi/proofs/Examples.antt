-- Worked examples, each by computation.
--     underlined              the underlined a of document 01 as the body of a page
--     underlined_written, underlined_read     its 36 node bytes and the 36 bytes of the body, each from the other
--     written_front           a byte behind the result stays
--     too_far, too_wide, not_zero, cut_off     refusal 16
--     font_before_rule, no_pop     refusal 17
--     no_room_lem, unchanged      refusal 18, and its buffer
-- Assumes nothing.
use Rattle.std.specs.Prelude.{◌≡◌, refl, List, [], ◌∷◌, ◌++◌, ℕ, pos, negsuc, take, set, replicate}
use Rattle.scaled.specs.Length.{pick, max_ℤ}
use Rattle.words.specs.Words.{little_endian, signed_word, word_of, four_bytes}
use Rattle.nodes.specs.Nodes.{glyph, rule, signed_bytes, node_bytes, bytes_of}
use Rattle.nodes.specs.Stored.{node_in}
use Rattle.dvi.specs.declared.forms.Form.TheVariants.{Stored, Body}
use Rattle.dvi.specs.Commands.{big_endian, command_bytes, commands_bytes}
use Rattle.dvi.specs.Body.{commands_of, body_bytes, body_of}
use Rattle.dvi.specs.Profile.{writable}
use Rattle.dvi.specs.Forms.{looks_like, leads, front_in, added, node_then, read_step, read_by, nodes_in}
use Rattle.results.specs.Results.{made, refused, refusal, answer_by, buffer_by}
use Rattle.dvi.specs.Answers.{if_read, result_of, answering, buffer_after}

-- the definitions that the examples compute with
definitions : Unit {0}
unfolding pick max_ℤ little_endian signed_word word_of four_bytes signed_bytes node_bytes bytes_of node_in big_endian command_bytes commands_bytes commands_of body_bytes body_of writable looks_like leads front_in added node_then read_step read_by nodes_in if_read result_of answer_by answering buffer_by buffer_after
definitions = tt

-- ---- the underlined a

-- a glyph at 0, 0, and below it a rule at 0, -160, 500 wide and 40 thick
abbrev glyph_stored : List ℕ
glyph_stored = 71 ∷ 76 ∷ 0 ∷ 0 ∷ 0 ∷ 0 ∷ 0 ∷ 0 ∷ 0 ∷ 0 ∷ 0 ∷ 1 ∷ 97 ∷ 0 ∷ 0 ∷ 0 ∷ 0 ∷ 0 ∷ []

abbrev rule_stored : List ℕ
rule_stored = 82 ∷ 85 ∷ 0 ∷ 0 ∷ 0 ∷ 0 ∷ 96 ∷ 255 ∷ 255 ∷ 255 ∷ 244 ∷ 1 ∷ 0 ∷ 0 ∷ 40 ∷ 0 ∷ 0 ∷ 0 ∷ []

-- fnt_num 1, push, right4 0, down4 0, set1 97, pop
abbrev glyph_body : List ℕ
glyph_body = 172 ∷ 141 ∷ 146 ∷ 0 ∷ 0 ∷ 0 ∷ 0 ∷ 160 ∷ 0 ∷ 0 ∷ 0 ∷ 0 ∷ 128 ∷ 97 ∷ 142 ∷ []

-- push, right4 0, down4 160, set_rule 40 500, pop
abbrev rule_body : List ℕ
rule_body = 141 ∷ 146 ∷ 0 ∷ 0 ∷ 0 ∷ 0 ∷ 160 ∷ 0 ∷ 0 ∷ 0 ∷ 160 ∷ 132 ∷ 0 ∷ 0 ∷ 0 ∷ 40 ∷ 0 ∷ 0 ∷ 1 ∷ 244 ∷ 142 ∷ []

underlined : body_of (glyph (pos 0) (pos 0) 0 1 97 ∷ rule (pos 0) (negsuc 159) (pos 500) (pos 40) ∷ []) ≡ glyph_body ++ rule_body
unfolding definitions
underlined = refl

underlined_written : result_of Stored (glyph_stored ++ rule_stored) ≡ made (glyph_body ++ rule_body)
unfolding definitions
underlined_written = refl

underlined_read : result_of Body (glyph_body ++ rule_body) ≡ made (glyph_stored ++ rule_stored)
unfolding definitions
underlined_read = refl

-- a byte behind the result stays
written_front : buffer_after Stored glyph_stored (replicate 16 7) ≡ glyph_body ++ (7 ∷ [])
unfolding definitions
written_front = refl

-- ---- 16

-- x is 1,073,741,824
too_far : result_of Stored (set glyph_stored 5 64) ≡ refused 16 0
unfolding definitions
too_far = refl

-- 1,073,741,824 wide
too_wide : result_of Stored (set (set (set rule_stored 10 0) 11 0) 13 64) ≡ refused 16 0
unfolding definitions
too_wide = refl

not_zero : result_of Stored (set glyph_stored 17 1) ≡ refused 16 0
unfolding definitions
not_zero = refl

cut_off : result_of Stored (take 17 glyph_stored) ≡ refused 16 0
unfolding definitions
cut_off = refl

-- ---- 17

font_before_rule : result_of Body (172 ∷ rule_body) ≡ refused 17 0
unfolding definitions
font_before_rule = refl

no_pop : result_of Body (take 14 glyph_body) ≡ refused 17 0
unfolding definitions
no_pop = refl

-- ---- 18

no_room_lem : answering Stored glyph_stored 14 ≡ refusal 18 0
unfolding definitions
no_room_lem = refl

unchanged : buffer_after Stored glyph_stored (replicate 14 7) ≡ replicate 14 7
unfolding definitions
unchanged = refl
