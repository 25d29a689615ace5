-- A kind that the code has tested not to be that of a word.
--     NoWord      as the test tells it
--     Plain       its tokens are no words, and no unknown ones
-- Assumes nothing.
use mathlib.Core.Path.{◌≡◌, refl}
use mathlib.Core.Bool.{false}
use mathlib.Core.List.{List}
use Prim.Native.Nat.{ℕ}
use Rattle.eqn_tokens.specs.declared.tokens.TokenKind.{TokenKind}
use Rattle.eqn_tokens.specs.declared.tokens.TokenKind.TheVariants.{Word, Keyword as Joining, Open, Close, Other, End}
use Rattle.eqn_names.specs.Names.{Name, is_word}
use Rattle.eqn_names.specs.Unknown.{is_unknown}
use Rattle.eqn_tokens.specs.Values.{kind_as}

abbrev pub NoWord : TokenKind → Type 0
NoWord k = k ≡ Word → ⊥

pub record Plain (k : TokenKind) : Type 0 where
  pub no_word : (w : List ℕ) → is_word (kind_as k w) ≡ false
  pub known : (ns : List Name) (w : List ℕ) → is_unknown ns (kind_as k w) ≡ false

pub plain : (k : TokenKind) → NoWord k → Plain k
plain Word t = absurd (t refl)
plain (Joining k) t = record { no_word = λ w. refl; known = λ ns w. refl }
plain Open t = record { no_word = λ w. refl; known = λ ns w. refl }
plain Close t = record { no_word = λ w. refl; known = λ ns w. refl }
plain Other t = record { no_word = λ w. refl; known = λ ns w. refl }
plain End t = record { no_word = λ w. refl; known = λ ns w. refl }
