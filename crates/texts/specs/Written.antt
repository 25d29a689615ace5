-- What the functions that write text into a lent buffer promise.
--     Written       a text stands at the buffer's front, and what lies behind it stays
--     Put           the same for a text at a place of the buffer; what lies before it stays too
--     PutNear       and its end is not far from its start
--     signed_text    the text of a number that is given by its sign and how far it lies from zero; `number_text`, of
--                   the code's own
-- Assumes nothing.
use Rattle.std.specs.Prelude.{Bool, true, false, ◌≡◌, List, ◌∷◌, ◌++◌, ℕ, ◌+◌, ◌≤◌, length, take, drop}
use Rattle.texts.specs.declared.Number.{Number}
use Rattle.texts.specs.Decimals.{decimal_of, minus}

pub record Written (t before after : List ℕ) (end : ℕ) : Type 0 where
  pub size : end ≡ length t
  pub room : end ≤ length before
  pub bytes : after ≡ t ++ drop end before

pub record Put (t before after : List ℕ) (at end : ℕ) : Type 0 where
  pub size : end ≡ at + length t
  pub room : end ≤ length before
  pub bytes : after ≡ take at before ++ t ++ drop end before

pub record PutNear (most : ℕ) (t before after : List ℕ) (at end : ℕ) : Type 0 where
  pub put : Put t before after at end
  pub near : end ≤ at + most

abbrev pub signed_text : Bool → ℕ → List ℕ
signed_text true n = minus ∷ decimal_of n
signed_text false n = decimal_of n

abbrev pub number_text : Number → List ℕ
number_text n = signed_text n.minus n.size
