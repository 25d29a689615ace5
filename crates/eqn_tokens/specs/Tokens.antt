-- The tokens of typed text (request 10). A word is a longest run of its bytes; a byte that can stand in no text is a token by itself.
--     keyword_of w       the token that a word is
--     tokens_in s        the tokens of a text; `tokens_from k s` those behind its first k bytes
--     place_in k s       the place of the token that has k before it, or the text's length where there is none
--     token_bytes t      the bytes that a token is typed in
-- Assumes nothing.
use Rattle.std.specs.Prelude.{true, false, cond, List, [], ◌∷◌, ℕ, zero, suc, eqb, take}
use Rattle.eqn_tokens.specs.declared.tokens.Keyword.{Keyword}
use Rattle.eqn_tokens.specs.declared.tokens.Keyword.TheVariants.{Sub, Sup, Over, From, To}
use Rattle.eqn_tokens.specs.Bytes.{is_separator, is_word_byte, opening_brace, closing_brace, same}

pub data Token : Type 0 where
  word : List ℕ → Token
  keyword : Keyword → Token
  opening closing : Token
  other : ℕ → Token

-- ---- words and keywords

abbrev pub sub_bytes : List ℕ
sub_bytes = 115 ∷ 117 ∷ 98 ∷ []

abbrev pub sup_bytes : List ℕ
sup_bytes = 115 ∷ 117 ∷ 112 ∷ []

abbrev pub over_bytes : List ℕ
over_bytes = 111 ∷ 118 ∷ 101 ∷ 114 ∷ []

abbrev pub from_bytes : List ℕ
from_bytes = 102 ∷ 114 ∷ 111 ∷ 109 ∷ []

abbrev pub to_bytes : List ℕ
to_bytes = 116 ∷ 111 ∷ []

abbrev pub keyword_bytes : Keyword → List ℕ
keyword_bytes Sub = sub_bytes
keyword_bytes Sup = sup_bytes
keyword_bytes Over = over_bytes
keyword_bytes From = from_bytes
keyword_bytes To = to_bytes

unfoldable pub keyword_of : List ℕ → Token
keyword_of w =
    cond (same w sub_bytes) (keyword Sub)
    (cond (same w sup_bytes) (keyword Sup)
    (cond (same w over_bytes) (keyword Over) (cond (same w from_bytes) (keyword From) (cond (same w to_bytes) (keyword To) (word w)))))

unfoldable pub token_bytes : Token → List ℕ
token_bytes (word w) = w
token_bytes (keyword k) = keyword_bytes k
token_bytes opening = opening_brace ∷ []
token_bytes closing = closing_brace ∷ []
token_bytes (other b) = b ∷ []

-- ---- the tokens of a text

-- how many bytes the word at the front has
unfoldable pub run_length : List ℕ → ℕ
run_length [] = 0
run_length (b ∷ s) = cond (is_word_byte b) (suc (run_length s)) 0

-- the token that a byte is which is of no word and no separator
unfoldable pub mark_of : ℕ → Token
mark_of b = cond (eqb b opening_brace) opening (cond (eqb b closing_brace) closing (other b))

-- the k bytes at the front are of a token that has been taken
unfoldable pub tokens_from : ℕ → List ℕ → List Token
tokens_from k [] = []
tokens_from (suc k) (b ∷ s) = tokens_from k s
tokens_from zero (b ∷ s) =
    elim (is_separator b) [
      | true ↦ tokens_from zero s
      | false ↦
          elim (is_word_byte b) [
            | true ↦ keyword_of (b ∷ take (run_length s) s) ∷ tokens_from (run_length s) s
            | false ↦ mark_of b ∷ tokens_from zero s
          ]
    ]

abbrev pub tokens_in : List ℕ → List Token
tokens_in s = tokens_from zero s

unfoldable pub place_from : ℕ → ℕ → List ℕ → ℕ
place_from k n [] = 0
place_from (suc k) n (b ∷ s) = suc (place_from k n s)
place_from zero n (b ∷ s) =
    elim (is_separator b) [
      | true ↦ suc (place_from zero n s)
      | false ↦
          elim n [
            | zero ↦ 0
            | suc m ↦ suc (place_from (elim (is_word_byte b) [ true ↦ run_length s | false ↦ 0 ]) m s)
          ]
    ]

abbrev pub place_in : ℕ → List ℕ → ℕ
place_in n s = place_from zero n s
