-- The formula that a derivation means (request 10), with the names of a table.
--     Operand         what an expression is as an item, and as an operand: one bare word is a symbol, any other a list of its items,
--                     a group's those inside
--     atom_of          a word or a group with its scripts; `fraction_of` a fraction; `limits_of` an expression with limits
--     row_items        a row; a part of it is `limited_item`, `overs_operand`, `scripted_operand`, `primary_nucleus`
--     fits_formula     the limits of a formula
-- Assumes nothing.
use Rattle.std.specs.Prelude.{Bool, true, false, ◌&&◌, ℕ, zero, suc, ◌-◌, leb, get_or}
use mathlib.Core.List.{List}
use Rattle.std.proofs.Math.Option.{Option, none, some}
use Rattle.formula.specs.declared.Class.{Class}
use Rattle.formula.specs.declared.Class.TheVariants.{Ord, Op}
use Rattle.formula.specs.declared.Limits.TheVariants.{DisplayOnly, Always}
use Rattle.formula.specs.declared.Bar.TheVariants.{Default}
use Rattle.formula.specs.declared.Base.TheVariants.{Atom}
use Rattle.formula.specs.declared.Kind.TheVariants.{Scripted, Fraction}
use Rattle.formula.specs.Tree.{Items, Item, Field, nil, cons, noad, kern, restyle, choice, empty, symbol, list, items_bytes}
use Rattle.formula.specs.Heads.{classes}
use Rattle.formula.specs.Format.{formula_limit, depth_limit}
use Rattle.eqn_names.specs.Names.{Name, named}
use Rattle.eqn_grammar.specs.Grammar as grammar

-- ---- symbols of words

-- of a word without a name, which is refused before
abbrev pub no_name : Name
no_name = record { bytes = mathlib.Core.List.[]; family = 0; code = 0; class = 0 }

abbrev pub or_no_name : Option Name → Name
or_no_name none = no_name
or_no_name (some m) = m

abbrev pub class_of : ℕ → Class
class_of n = get_or classes n Ord

-- ---- items and operands

pub record Operand : Type 0 where
  pub item : Item
  pub field : Field

-- a word or a group: its field, and the class of an atom with that nucleus
pub record Nucleus : Type 0 where
  pub class : Class
  pub field : Field

abbrev pub in_list : Item → Field
in_list i = list (cons i nil)

abbrev pub is_absent : Field → Bool
is_absent empty = true
is_absent (symbol family code) = false
is_absent (list l) = false

-- with a subscript and a superscript, where there are any; limits are 0
abbrev pub atom : Nucleus → Field → Field → Item
atom n sub sup = noad (Scripted (Atom n.class DisplayOnly)) n.field sup sub

unfoldable pub atom_of : Nucleus → Field → Field → Operand
atom_of n sub sup = record {
  item = atom n sub sup;
  field = elim (is_absent sub && is_absent sup) [ true ↦ n.field | false ↦ in_list (atom n sub sup) ];
}

-- bars are 0
abbrev pub fraction_item : Operand → Operand → Item
fraction_item x z = noad (Fraction Default) x.field z.field empty

abbrev pub fraction_of : Operand → Operand → Operand
fraction_of x z = record { item = fraction_item x z; field = in_list (fraction_item x z) }

-- `from` and `to` make an Op atom with limits 1
unfoldable pub limits_of : Operand → Field → Field → Item
limits_of x lower upper =
    elim (is_absent lower && is_absent upper) [
      | true ↦ x.item
      | false ↦ noad (Scripted (Atom Op Always)) x.field upper lower
    ]

-- ---- derivations

module _ (ns : List Name) where
  abbrev pub name_of : List ℕ → Name
  name_of w = or_no_name (named ns w)

  abbrev pub word_nucleus : List ℕ → Nucleus
  word_nucleus w = record { class = class_of (name_of w).class; field = symbol (name_of w).family (name_of w).code }

  unfoldable mutual
    pub row_items : grammar.Row → Items
    row_items grammar.nil = nil
    row_items (grammar.beside l r) = cons (limited_item l) (row_items r)

    pub limited_item : grammar.Limited → Item
    limited_item (grammar.limited o f t) = limits_of (overs_operand o) (limit_field f) (limit_field t)

    pub limit_field : grammar.NoOvers → Field
    limit_field grammar.no_overs = empty
    limit_field (grammar.some_overs o) = (overs_operand o).field

    pub overs_operand : grammar.Overs → Operand
    overs_operand (grammar.single s) = scripted_operand s
    overs_operand (grammar.fraction o s) = fraction_of (overs_operand o) (scripted_operand s)

    pub scripted_operand : grammar.Scripted → Operand
    scripted_operand (grammar.scripted p b q) = atom_of (primary_nucleus p) (script_field b) (script_field q)

    pub script_field : grammar.NoPrimary → Field
    script_field grammar.no_primary = empty
    script_field (grammar.some_primary p) = (primary_nucleus p).field

    pub primary_nucleus : grammar.Primary → Nucleus
    primary_nucleus (grammar.named w) = word_nucleus w
    primary_nucleus (grammar.braced r) = record { class = Ord; field = list (row_items r) }

-- ---- the limits of a formula

-- what holds of a list that is one level deeper, with so many levels left
abbrev pub deeper : (ℕ → Bool) → ℕ → Bool
deeper f zero = false
deeper f (suc levels) = f levels

-- whether lists nest at most so deep
unfoldable mutual
  pub items_within : Items → ℕ → Bool
  items_within nil levels = true
  items_within (cons i r) levels = item_within i levels && items_within r levels

  pub item_within : Item → ℕ → Bool
  item_within (noad kind x y z) levels = field_within x levels && field_within y levels && field_within z levels
  item_within (kern n) levels = true
  item_within (restyle n) levels = true
  item_within (choice d t sc ss) levels =
      deeper (λ n. items_within d n) levels && deeper (λ n. items_within t n) levels && deeper (λ n. items_within sc n) levels
      && deeper (λ n. items_within ss n) levels

  pub field_within : Field → ℕ → Bool
  field_within empty levels = true
  field_within (symbol family code) levels = true
  field_within (list l) levels = deeper (λ n. items_within l n) levels

-- the formula itself is the first level
unfoldable pub fits_formula : Items → Bool
fits_formula l = leb (items_bytes l) formula_limit && items_within l (depth_limit - 1)
