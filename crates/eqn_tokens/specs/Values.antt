-- What the code's values stand for, and what its functions promise.
--     kind_as, TokenAt        a token by its kind and its bytes, and the first one from a place on; `IsSpelled` the bytes of a kind
--     MarkAs                 the kind of a byte that is a token by itself
--     SeparatorsBefore       a place behind separators
-- Assumes nothing.
use Rattle.std.specs.Prelude.{◌≡◌, true, false, List, [], ◌∷◌, ℕ, ◌+◌, ◌-◌, ◌≤◌, ◌<◌, length, take, drop, get_or}
use Rattle.eqn_tokens.specs.Bytes.{is_separator, opening_brace, closing_brace}
use Rattle.eqn_tokens.specs.Tokens.{Token, word, keyword, opening, closing, other, keyword_bytes, mark_of, tokens_in, place_in}
use Rattle.eqn_tokens.specs.declared.tokens.TokenKind.{TokenKind}
use Rattle.eqn_tokens.specs.declared.tokens.TokenKind.TheVariants.{Word, Keyword as Joining, Open, Close, Other, End}
use Rattle.eqn_tokens.specs.declared.tokens.Token as code

-- with its bytes; there is no token at the end, which stands for a byte of its own
abbrev pub kind_as : TokenKind → List ℕ → Token
kind_as Word w = word w
kind_as (Joining k) w = keyword k
kind_as Open w = opening
kind_as Close w = closing
kind_as Other w = other (get_or w 0 0)
kind_as End w = other 0

-- the tokens from one of this kind on, before others
abbrev pub token_then : TokenKind → List ℕ → List Token → List Token
token_then Word w ts = word w ∷ ts
token_then (Joining k) w ts = keyword k ∷ ts
token_then Open w ts = opening ∷ ts
token_then Close w ts = closing ∷ ts
token_then Other w ts = other (get_or w 0 0) ∷ ts
token_then End w ts = []

-- the kind of a byte that is a token by itself, whatever stands behind it
abbrev pub MarkAs : ℕ → TokenKind → Type 0
MarkAs b k = (w : List ℕ) (ts : List Token) → token_then k (b ∷ w) ts ≡ mark_of b ∷ ts

-- a token has bytes; the end has none
abbrev pub HasBytes : TokenKind → ℕ → ℕ → Type 0
HasBytes Word start end = start < end
HasBytes (Joining k) start end = start < end
HasBytes Open start end = start < end
HasBytes Close start end = start < end
HasBytes Other start end = start < end
HasBytes End start end = start ≡ end

-- a keyword and a brace have their own bytes, another byte is one; those of a word are told by the token itself
abbrev pub IsSpelled : TokenKind → List ℕ → Type 0
IsSpelled Word w = Unit {0}
IsSpelled (Joining k) w = w ≡ keyword_bytes k
IsSpelled Open w = w ≡ opening_brace ∷ []
IsSpelled Close w = w ≡ closing_brace ∷ []
IsSpelled Other w = length w ≡ 1
IsSpelled End w = Unit {0}

pub record TokenAt (s : List ℕ) (at : ℕ) (t : code.Token) : Type 0 where
  pub behind : at ≤ t.start
  pub some : HasBytes t.kind t.start t.end
  pub within : t.end ≤ length s
  pub spelled : IsSpelled t.kind (take (t.end - t.start) (drop t.start s))
  pub tokens : tokens_in (drop at s) ≡ token_then t.kind (take (t.end - t.start) (drop t.start s)) (tokens_in (drop t.end s))
  pub place : at + place_in 0 (drop at s) ≡ t.start
  pub places : (n : ℕ) → at + place_in (n + 1) (drop at s) ≡ t.end + place_in n (drop t.end s)

-- a place up to which only separators stand, at the end or at another byte
pub record SeparatorsBefore (s : List ℕ) (at r : ℕ) : Type 0 where
  pub behind : at ≤ r
  pub within : r ≤ length s
  pub all : (i : ℕ) → at ≤ i → i < r → is_separator (get_or s i 0) ≡ true
  pub last : r < length s → is_separator (get_or s r 0) ≡ false
