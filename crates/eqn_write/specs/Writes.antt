-- What the parts of a list are written as, and what the functions ask and promise that write them.
--     joined                     tokens and others behind them, if there are both
--     of_operand, of_script        the tokens of a field that has to be there, and of one behind a keyword, which may be missing
--     of_item                     the tokens of an item
--     field_tokens, behind_tokens, script_tokens     of a field's bytes, by the names of a table
--     scripted_tokens             of three fields: a nucleus and two scripts, the lower first, each behind its keyword
--     fraction_tokens, item_tokens     of two fields, and of an item's bytes
--     FieldAsked, ScriptAsked, TwoAsked, ThreeAsked, ItemAsked, GroupAsked     what is asked: the part is good, and its text has room
--     Ends                       between which places a text ends
--     Puts                       tokens have been written, whichever names the table has, and the text ends between two places
--     NamePut, GroupPut, FieldPut, BehindPut, ScriptPut, FractionPut, ScriptedPut, ItemPut     so of a symbol, and of each part
-- Assumes nothing.
use Rattle.std.specs.Prelude.{◌≡◌, List, [], ◌∷◌, ◌++◌, ℕ, ◌+◌, ◌-◌, ◌*◌, ◌≤◌, ◌<◌, length, drop}
use Rattle.std.proofs.Math.Option.{Option, none, some}
use Rattle.eqn_tokens.specs.Tokens.{Token, keyword}
use Rattle.eqn_names.specs.Names.{Name, Asked, any_class, Records, first_for}
use Rattle.formula.specs.declared.Kind.{Kind}
use Rattle.formula.specs.declared.Opening.TheVariants.{Fields}
use Rattle.formula.specs.Heads.{opening_of, field_head}
use Rattle.formula.specs.Places.{Readable, tree_of, head_bytes, field_of, GoodField, field_end, end, item_of, GoodFieldAt}
use Rattle.eqn_grammar.specs.Grammar.{Limited, limited_tokens, primary_tokens}
use Rattle.eqn_meaning.specs.Writing.{Derived, nothing, operand, textless, as_word, as_group, row_of, expression_of, operand_of}
use Rattle.std.specs.Prelude.{Some, None}
use Rattle.eqn_write.specs.Values.{Put, text_limit, TextPut, HasNames}
use Rattle.eqn_tokens.specs.declared.tokens.Keyword.TheVariants.{Over}

-- ---- tokens

abbrev pub joined : Option (List Token) → Option (List Token) → Option (List Token)
joined none p = none
joined (some ts) none = none
joined (some ts) (some us) = some (ts ++ us)

abbrev pub of_operand : Derived → Option (List Token)
of_operand nothing = none
of_operand (operand p) = some (primary_tokens p)
of_operand textless = none

abbrev pub of_script : Token → Derived → Option (List Token)
of_script k nothing = some []
of_script k (operand p) = some (k ∷ primary_tokens p)
of_script k textless = none

abbrev pub of_item : Option Limited → Option (List Token)
of_item none = none
of_item (some l) = some (limited_tokens l)

-- ---- the bytes of a formula

-- a field from its kind byte on
abbrev pub derived_field : List ℕ → Asked → List Name → Derived
derived_field s asked ns = operand_of ns (field_of s (field_head s)) asked

abbrev pub field_tokens : List ℕ → Asked → List Name → Option (List Token)
field_tokens s asked ns = of_operand (derived_field s asked ns)

abbrev pub behind_tokens : Token → List ℕ → List Name → Option (List Token)
behind_tokens k s ns = joined (some (k ∷ [])) (field_tokens s any_class ns)

abbrev pub script_tokens : Token → List ℕ → List Name → Option (List Token)
script_tokens k s ns = of_script k (derived_field s any_class ns)

-- an item's fields, the first at a place
abbrev pub scripted_tokens : Token → Token → Asked → List ℕ → ℕ → List Name → Option (List Token)
scripted_tokens lower upper asked s first ns =
    joined (field_tokens (drop first s) asked ns)
    (joined (script_tokens lower (drop (field_end s (field_end s first)) s) ns) (script_tokens upper (drop (field_end s first) s) ns))

abbrev pub fraction_tokens : List ℕ → ℕ → List Name → Option (List Token)
fraction_tokens s first ns = joined (field_tokens (drop first s) any_class ns) (behind_tokens (keyword Over) (drop (field_end s first) s) ns)

abbrev pub item_tokens : Kind → List ℕ → List Name → Option (List Token)
item_tokens kind s ns = of_item (expression_of ns (item_of s (Fields kind)))

-- ---- what is asked

abbrev pub front_bytes : List ℕ → ℕ
front_bytes s = head_bytes (field_head s)

-- a field behind other text; a keyword has at most four bytes
pub record FieldAsked (table s : List ℕ) (at : ℕ) : Type 0 where
  pub has : HasNames table
  pub good : GoodField s (field_head s)
  pub room : at + 16 * front_bytes s ≤ text_limit + 8

pub record ScriptAsked (table s keyword : List ℕ) (at : ℕ) : Type 0 where
  pub has : HasNames table
  pub good : GoodField s (field_head s)
  pub short : length keyword ≤ 4
  pub later : 0 < at
  pub room : at + 16 * front_bytes s ≤ text_limit

pub record TwoAsked (table s : List ℕ) (first at : ℕ) : Type 0 where
  pub has : HasNames table
  pub within : first ≤ length s
  pub x : GoodFieldAt s first
  pub y : GoodFieldAt s (field_end s first)
  pub room : at + 16 * field_end s (field_end s first) ≤ text_limit

pub record ThreeAsked (table s : List ℕ) (first : ℕ) (lower upper : List ℕ) (at : ℕ) : Type 0 where
  pub has : HasNames table
  pub within : first ≤ length s
  pub x : GoodFieldAt s first
  pub y : GoodFieldAt s (field_end s first)
  pub z : GoodFieldAt s (field_end s (field_end s first))
  pub short : (length lower ≤ 4) × (length upper ≤ 4)
  pub room : at + 16 * field_end s (field_end s (field_end s first)) ≤ text_limit

pub record ItemAsked (table s : List ℕ) (kind : Kind) (at : ℕ) : Type 0 where
  pub has : HasNames table
  pub readable : Readable s
  pub opens : opening_of s ≡ Fields kind
  pub room : at + 16 * end s kind ≤ text_limit

pub record GroupAsked (table s : List ℕ) (at : ℕ) : Type 0 where
  pub has : HasNames table
  pub readable : Readable s
  pub room : at + 16 * length s + 4 ≤ text_limit

-- ---- what is promised

abbrev pub Ends : ℕ → ℕ → Put → Type 0
Ends least most (Some e) = (least ≤ e) × (e ≤ most)
Ends least most None = Unit {0}

pub record Puts (table : List ℕ) (tokens : List Name → Option (List Token)) (least most at : ℕ) (before after : List ℕ) (r : Put) : Type 0 where
  pub ends : Ends least most r
  pub text : (ns : List Name) → Records table ns → TextPut (tokens ns) at before after r

abbrev pub NamePut : List ℕ → ℕ → ℕ → Asked → ℕ → List ℕ → List ℕ → Put → Type 0
NamePut table family code asked at = Puts table (λ ns. of_operand (as_word (first_for family code asked ns))) (at + 1) (at + 33) at

abbrev pub GroupPut : List ℕ → List ℕ → ℕ → List ℕ → List ℕ → Put → Type 0
GroupPut table s at = Puts table (λ ns. of_operand (as_group (row_of ns (tree_of s)))) (at + 1) (at + 16 * length s + 4) at

abbrev pub FieldPut : List ℕ → List ℕ → Asked → ℕ → List ℕ → List ℕ → Put → Type 0
FieldPut table s asked at = Puts table (field_tokens s asked) (at + 1) (at + 16 * front_bytes s - 8) at

abbrev pub BehindPut : List ℕ → List ℕ → Token → ℕ → List ℕ → List ℕ → Put → Type 0
BehindPut table s k at = Puts table (behind_tokens k s) at (at + 16 * front_bytes s) at

abbrev pub ScriptPut : List ℕ → List ℕ → Token → ℕ → List ℕ → List ℕ → Put → Type 0
ScriptPut table s k at = Puts table (script_tokens k s) at (at + 16 * front_bytes s) at

abbrev pub FractionPut : List ℕ → List ℕ → ℕ → ℕ → List ℕ → List ℕ → Put → Type 0
FractionPut table s first at = Puts table (fraction_tokens s first) (at + 1) (at + 16 * field_end s (field_end s first)) at

abbrev pub ScriptedPut : List ℕ → List ℕ → ℕ → Token → Token → Asked → ℕ → List ℕ → List ℕ → Put → Type 0
ScriptedPut table s first lower upper asked at =
    Puts table (scripted_tokens lower upper asked s first) (at + 1) (at + 16 * field_end s (field_end s (field_end s first))) at

abbrev pub ItemPut : List ℕ → List ℕ → Kind → ℕ → List ℕ → List ℕ → Put → Type 0
ItemPut table s kind at = Puts table (item_tokens kind s) (at + 1) (at + 16 * end s kind) at
