-- What the code's values stand for, and what its functions promise.
--     form_as               the form of an item
--     takes_group           whether a list in braces will do for a class, or for any
--     Put                   what writing a part answers
--     token_text, text_from   the bytes of a token, and of some tokens, that are written from a place on: behind a space but at the text's front
--     TextPut               tokens have been written at a place, or there are none to write
--     PutWithin             how long a text may become: at most sixteen bytes for each byte of the formula
--     ListPut               of the names of the table: the text of a list
-- Assumes nothing.
use Rattle.std.specs.Prelude.{◌≡◌, List, [], ◌∷◌, ◌++◌, ℕ, zero, suc, ◌+◌, ◌*◌, ◌≤◌, length, Bool, true, eqb, Option as CodeOption, Some, None}
use Rattle.std.proofs.Math.Option.{Option, none, some}
use Rattle.std.proofs.lemmas.List.Edits.{sets}
use Rattle.eqn_tokens.specs.Tokens.{Token, token_bytes}
use Rattle.eqn_names.specs.Names.{Name, Records}
use Rattle.formula.specs.declared.Class.TheVariants.{Ord}
use Rattle.formula.specs.Heads.{class_number}
use Rattle.formula.specs.Places.{tree_of}
use Rattle.eqn_grammar.specs.Grammar.{Row, row_tokens}
use Rattle.eqn_meaning.specs.Writing as meaning
use Rattle.eqn_write.specs.declared.forms.ItemForm.{ItemForm}
use Rattle.eqn_write.specs.declared.forms.ItemForm.TheVariants.{PlainAtom, Operator, Barred, Unmade}

abbrev pub form_as : ItemForm → meaning.ItemForm
form_as (PlainAtom class) = meaning.plain_atom (class_number class)
form_as Operator = meaning.operator
form_as Barred = meaning.barred
form_as Unmade = meaning.unmade

-- a list in braces is an Ord
abbrev pub takes_group : CodeOption ℕ → Bool
takes_group None = true
takes_group (Some class) = eqb class (class_number Ord)

-- ---- the text

-- a place up to which text has been written, or none where the part has no text
abbrev pub Put : Type 0
Put = CodeOption ℕ

-- no place in a text reaches it
abbrev pub text_limit : ℕ
text_limit = 4_294_967_296

abbrev pub token_text : ℕ → List ℕ → List ℕ
token_text zero w = w
token_text (suc at) w = 32 ∷ w

unfoldable pub text_from : ℕ → List Token → List ℕ
text_from at [] = []
text_from at (t ∷ ts) = token_text at (token_bytes t) ++ meaning.spaced ts

-- ---- what has been written

pub record Texted (o : Option (List Token)) (at e : ℕ) (before after : List ℕ) : Type 0 where
  pub tokens : List Token
  pub are : o ≡ some tokens
  pub ends : e ≡ at + length (text_from at tokens)
  pub stored : after ≡ sets before at (text_from at tokens)

pub record Untexted (o : Option (List Token)) (before after : List ℕ) : Type 0 where
  pub none_are : o ≡ none
  pub as_long : length after ≡ length before

abbrev pub TextPut : Option (List Token) → ℕ → List ℕ → List ℕ → Put → Type 0
TextPut o at before after (Some e) = Texted o at e before after
TextPut o at before after None = Untexted o before after

-- for so many bytes of a formula
abbrev pub PutWithin : ℕ → ℕ → Put → Type 0
PutWithin at bytes (Some e) = e ≤ at + 16 * bytes
PutWithin at bytes None = Unit {0}

-- ---- of the names of a table

abbrev pub HasNames : List ℕ → Type 0
HasNames table = (ns : List Name) × Records table ns

abbrev pub tokens_of_row : Option Row → Option (List Token)
tokens_of_row none = none
tokens_of_row (some r) = some (row_tokens r)

abbrev pub ListPut : List ℕ → List ℕ → ℕ → List ℕ → List ℕ → Put → Type 0
ListPut table s at before after r =
    (ns : List Name) → Records table ns → TextPut (tokens_of_row (meaning.row_of ns (tree_of s))) at before after r
