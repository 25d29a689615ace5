-- The text that a formula is written as (request 10): each list in braces, for each symbol the first name of the table, of an atom's class
-- where the atom takes it from the word; one space between tokens.
--     Derived         what a field is in a derivation: nothing, a word or a group; or there is no text for it
--     row_of           the derivation of a list of items, if the reader makes the list from a text; `expression_of`, `operand_of` those of
--                     an item and a field
--     text_of          the text of some tokens
-- Assumes nothing.
use Rattle.std.specs.Prelude.{true, false, List, [], ◌∷◌, ◌++◌, ℕ, eqb}
use Rattle.std.proofs.Math.Option.{Option, none, some}
use Rattle.formula.specs.declared.Class.{Class}
use Rattle.formula.specs.declared.Class.TheVariants.{Ord}
use Rattle.formula.specs.declared.Limits.{Limits}
use Rattle.formula.specs.declared.Limits.TheVariants.{DisplayOnly, Always, Never}
use Rattle.formula.specs.declared.Bar.TheVariants.{Default, Without}
use Rattle.formula.specs.declared.Base.TheVariants.{Atom, Over, Under, Root, Fence}
use Rattle.formula.specs.declared.Kind.{Kind}
use Rattle.formula.specs.declared.Kind.TheVariants.{Scripted, Fraction}
use Rattle.formula.specs.Tree.{Items, Item, Field, nil, cons, noad, kern, restyle, choice, empty, symbol, list}
use Rattle.formula.specs.Heads.{is_op, class_number}
use Rattle.eqn_tokens.specs.Tokens.{Token, token_bytes}
use Rattle.eqn_names.specs.Names.{Name, Asked, any_class, of_class, first_for}
use Rattle.eqn_grammar.specs.Grammar as grammar
use Rattle.eqn_grammar.specs.Parsing.{bare}

-- ---- fields

pub data Derived : Type 0 where
  nothing : Derived
  operand : grammar.Primary → Derived
  textless : Derived

abbrev pub as_word : Option Name → Derived
as_word none = textless
as_word (some m) = operand (grammar.named m.bytes)

abbrev pub as_group : Option grammar.Row → Derived
as_group none = textless
as_group (some r) = operand (grammar.braced r)

-- an atom with a group as its nucleus is an Ord
abbrev pub group_for : Asked → Option grammar.Row → Derived
group_for any_class r = as_group r
group_for (of_class k) r = elim (eqb k (class_number Ord)) [ true ↦ as_group r | false ↦ textless ]

-- ---- items

-- what stands behind `sub` or `sup`
abbrev pub with_script : (grammar.NoPrimary → Option grammar.Limited) → Derived → Option grammar.Limited
with_script f nothing = f grammar.no_primary
with_script f (operand p) = f (grammar.some_primary p)
with_script f textless = none

-- a word or a group that has to be there
abbrev pub with_operand : (grammar.Primary → Option grammar.Limited) → Derived → Option grammar.Limited
with_operand f nothing = none
with_operand f (operand p) = f p
with_operand f textless = none

abbrev pub single : grammar.Primary → grammar.Overs
single p = grammar.single (bare p)

abbrev pub limit : grammar.NoPrimary → grammar.NoOvers
limit grammar.no_primary = grammar.no_overs
limit (grammar.some_primary p) = grammar.some_overs (single p)

abbrev pub atom_derived : Derived → Derived → Derived → Option grammar.Limited
atom_derived x sup sub =
    with_operand
    (λ p. with_script (λ q. with_script (λ b. some (grammar.limited (grammar.single (grammar.scripted p b q)) grammar.no_overs grammar.no_overs)) sub) sup)
    x

-- one of the limits has to be there
abbrev pub limits_on : grammar.Primary → grammar.NoPrimary → grammar.NoPrimary → Option grammar.Limited
limits_on p grammar.no_primary grammar.no_primary = none
limits_on p grammar.no_primary (grammar.some_primary t) = some (grammar.limited (single p) grammar.no_overs (grammar.some_overs (single t)))
limits_on p (grammar.some_primary f) t = some (grammar.limited (single p) (grammar.some_overs (single f)) (limit t))

abbrev pub limits_derived : Derived → Derived → Derived → Option grammar.Limited
limits_derived x upper lower = with_operand (λ p. with_script (λ t. with_script (λ f. limits_on p f t) lower) upper) x

abbrev pub fraction_derived : Derived → Derived → Option grammar.Limited
fraction_derived x z =
    with_operand
    (λ p. with_operand (λ q. some (grammar.limited (grammar.fraction (single p) (bare q)) grammar.no_overs grammar.no_overs)) z)
    x

-- an item that the reader makes, from its kind and its fields, the first for the class that it has to have
pub data ItemForm : Type 0 where
  plain_atom : ℕ → ItemForm  -- the class's number
  operator : ItemForm  -- with limits 1
  barred : ItemForm
  unmade : ItemForm

abbrev pub atom_form : Class → Limits → ItemForm
atom_form class DisplayOnly = plain_atom (class_number class)
atom_form class Always = elim (is_op class) [ true ↦ operator | false ↦ unmade ]
atom_form class Never = unmade

abbrev pub form_of : Kind → ItemForm
form_of (Scripted (Atom class limits)) = atom_form class limits
form_of (Scripted Over) = unmade
form_of (Scripted Under) = unmade
form_of (Scripted (Root sign)) = unmade
form_of (Scripted (Fence left right)) = unmade
form_of (Fraction Default) = barred
form_of (Fraction Without) = unmade

unfoldable pub derived_by : ItemForm → (Asked → Derived) → Derived → Derived → Option grammar.Limited
derived_by (plain_atom class) x y z = atom_derived (x (of_class class)) y z
derived_by operator x y z = limits_derived (x any_class) y z
derived_by barred x y z = fraction_derived (x any_class) y
derived_by unmade x y z = none

abbrev pub beside_of : Option grammar.Limited → Option grammar.Row → Option grammar.Row
beside_of none r = none
beside_of (some l) none = none
beside_of (some l) (some r) = some (grammar.beside l r)

-- ---- lists

module _ (ns : List Name) where
  unfoldable mutual
    pub row_of : Items → Option grammar.Row
    row_of nil = some grammar.nil
    row_of (cons i r) = beside_of (expression_of i) (row_of r)

    pub expression_of : Item → Option grammar.Limited
    expression_of (noad kind x y z) = derived_by (form_of kind) (λ asked. operand_of x asked) (operand_of y any_class) (operand_of z any_class)
    expression_of (kern n) = none
    expression_of (restyle n) = none
    expression_of (choice d t sc ss) = none

    pub operand_of : Field → Asked → Derived
    operand_of empty asked = nothing
    operand_of (symbol family code) asked = as_word (first_for family code asked ns)
    operand_of (list l) asked = group_for asked (row_of l)

-- ---- text

-- each token behind a space
unfoldable pub spaced : List Token → List ℕ
spaced [] = []
spaced (t ∷ ts) = 32 ∷ (token_bytes t ++ spaced ts)

unfoldable pub text_of : List Token → List ℕ
text_of [] = []
text_of (t ∷ ts) = token_bytes t ++ spaced ts
