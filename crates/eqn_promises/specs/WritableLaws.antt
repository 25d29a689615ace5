-- There is a derivation for the items that a derivation means, if each of its words has a name; it may be another one.
--     FieldDerived, ItemDerived, RowDerived     there is one for a field, an item, a list
--     NucleusDerived, OperandDerived, Given     and for what a word or a group, a part of a row, and a script or a limit mean
--     row_of_items                              so for the items of a derivation
-- Assumes nothing.
use Rattle.std.proofs.Math.Path.{◌≡◌, refl}
use Rattle.std.specs.Prelude.{Bool, true, false, ◌&&◌, ℕ}
use mathlib.Core.List.{List, [], ◌∷◌, ◌++◌, Memᴰ}
use Rattle.std.proofs.Math.Option.{Option, none, some}
use Rattle.std.proofs.Common.{arith, eq-eqb}
use Rattle.formula.specs.Tree.{Items, Item, Field, nil, cons, empty, symbol, list}
use Rattle.formula.specs.Heads.{class_number}
use Rattle.eqn_tokens.specs.Tokens.{keyword, closing}
use Rattle.eqn_names.specs.Names.{Name, Asked, any_class, of_class, has_class, first_for}
use Rattle.eqn_names.proofs.NamesLaws.{named_is, first_none}
use Rattle.eqn_grammar.specs.Grammar as grammar
use Rattle.eqn_grammar.specs.Grammar.{Row, Limited, NoOvers, Overs, NoPrimary, no_primary, some_primary, Primary, row_tokens, limited_tokens, limit_tokens, overs_tokens, scripted_tokens, script_tokens, primary_tokens}
use Rattle.eqn_meaning.specs.Meaning.{Operand, Nucleus, is_absent, atom, atom_of, fraction_item, fraction_of, limits_of, word_nucleus, row_items, limited_item, limit_field, overs_operand, scripted_operand, script_field, primary_nucleus}
use Rattle.eqn_meaning.specs.MeaningLaws.{class_own}
use Rattle.eqn_meaning.specs.Writing.{operand, derived_by, row_of, expression_of, operand_of}
use Rattle.eqn_promises.specs.Known.{All, all_cons, all_split, all_tail, GoodNames, Known, HasName, has_name}
use Rattle.eqn_tokens.specs.declared.tokens.Keyword.TheVariants.{Sub, Sup, Over, From, To}
use Rattle.eqn_tokens.specs.declared.tokens.Keyword.{Keyword}

-- ---- fields and items

module _ (ns : List Name) where
  abbrev pub RowDerived : Items → Type 0
  RowDerived l = (r : Row) × (row_of ns l ≡ some r)

  abbrev ItemDerived : Item → Type 0
  ItemDerived i = (l : Limited) × (expression_of ns i ≡ some l)

  abbrev FieldDerived : Field → Asked → Type 0
  FieldDerived x asked = (p : Primary) × (operand_of ns x asked ≡ operand p)

  -- a script or a limit
  data Given (x : Field) : Type 0 where
    absent : x ≡ empty → Given x
    there : FieldDerived x any_class → Given x

  record NucleusDerived (n : Nucleus) : Type 0 where
    any : FieldDerived n.field any_class
    own : FieldDerived n.field (of_class (class_number n.class))

  record OperandDerived (x : Operand) : Type 0 where
    item : ItemDerived x.item
    field : FieldDerived x.field any_class

  in_list_lem : (i : Item) → ItemDerived i → FieldDerived (list (cons i nil)) any_class
  unfolding row_of
  in_list_lem i h = (grammar.braced (grammar.beside h.0 grammar.nil), rw h.1)

  atom_item : (n : Nucleus) (b q : Field) → NucleusDerived n → Given b → Given q → ItemDerived (atom n b q)
  unfolding row_of derived_by
  atom_item n b q h (absent e) (absent f) = rw (e, f, h.own.1) (_, refl)
  atom_item n b q h (absent e) (there k) = rw (e, h.own.1, k.1) (_, refl)
  atom_item n b q h (there j) (absent f) = rw (f, h.own.1, j.1) (_, refl)
  atom_item n b q h (there j) (there k) = rw (h.own.1, k.1, j.1) (_, refl)

  atom_derived_lem : (n : Nucleus) (b q : Field) → NucleusDerived n → Given b → Given q → OperandDerived (atom_of n b q)
  unfolding atom_of
  atom_derived_lem n b q h j k = record { item = i; field = go (is_absent b && is_absent q) }
    where
      i : ItemDerived (atom n b q)
      i = atom_item n b q h j k

      go : (t : Bool) → FieldDerived (elim t [ true ↦ n.field | false ↦ list (cons (atom n b q) nil) ]) any_class
      go true = h.any
      go false = in_list_lem (atom n b q) i

  fraction_derived_lem : (x z : Operand) → OperandDerived x → OperandDerived z → OperandDerived (fraction_of x z)
  unfolding row_of derived_by
  fraction_derived_lem x z h k =
      let i : ItemDerived (fraction_item x z) = rw (h.field.1, k.field.1) (_, refl) in
      record { item = i; field = in_list_lem (fraction_item x z) i }

  -- what has a derivation is there
  derived_there : (x : Field) → FieldDerived x any_class → is_absent x ≡ false
  unfolding row_of
  derived_there empty h = let no : ◌≡◌ {A = ℕ} 0 1 = cc h.1 in absurd (omega arith)
  derived_there (symbol family code) h = refl
  derived_there (list l) h = refl

  limits_derived_lem : (x : Operand) (f t : Field) → OperandDerived x → Given f → Given t → ItemDerived (limits_of x f t)
  unfolding limits_of row_of derived_by
  limits_derived_lem x f t h (absent e) (absent g) = rw (e, g) h.item
  limits_derived_lem x f t h (absent e) (there upper) = rw (e, derived_there t upper, limits_of, h.field.1, upper.1, e) (_, refl)
  limits_derived_lem x f t h (there lower) (absent g) = rw (derived_there f lower, limits_of, h.field.1, g, lower.1) (_, refl)
  limits_derived_lem x f t h (there lower) (there upper) = rw (derived_there f lower, limits_of, h.field.1, upper.1, lower.1) (_, refl)

  -- ---- derivations

  module _ (good : GoodNames ns) where
    symbol_derived : (asked : Asked) (m : Name) → Memᴰ m ns → has_class asked m.class ≡ true →
        FieldDerived (symbol m.family m.code) asked
    unfolding row_of
    symbol_derived asked m member t = go (first_for m.family m.code asked ns) refl
      where
        go : (o : Option Name) → first_for m.family m.code asked ns ≡ o → FieldDerived (symbol m.family m.code) asked
        go none e =
            absurd (first_none m.family m.code asked ns e (record { member = member; has_family = refl; has_code = refl; has_class_lem = t }))
        go (some n) e = (grammar.named n.bytes, rw e)

    word_derived : (w : List ℕ) → HasName ns w → NucleusDerived (word_nucleus ns w)
    word_derived w h =
        let m = h.0 in
        let member = (named_is ns w h.1).member in
        rw h.1 (record {
          any = symbol_derived any_class m member refl;
          own =
              rw (class_own m.class (good m member).good.class)
              (symbol_derived (of_class m.class) m member (eq-eqb m.class m.class refl));
        })

    mutual
      unfolding row_items row_tokens row_of

      pub row_of_items : (r : Row) → All (Known ns) (row_tokens r) → RowDerived (row_items ns r)
      row_of_items grammar.nil h = (grammar.nil, refl)
      row_of_items (grammar.beside l r) h =
          let k = all_split (limited_tokens l) (row_tokens r) h in
          let first = limited_derived l k.0 in
          let rest = row_of_items r k.1 in
          (grammar.beside first.0 rest.0, rw (first.1, rest.1))

      limited_derived : (l : Limited) → All (Known ns) (limited_tokens l) → ItemDerived (limited_item ns l)
      limited_derived (grammar.limited o f t) h =
          let k = all_split (overs_tokens o) (limit_tokens From f ++ limit_tokens To t) h in
          let j = all_split (limit_tokens From f) (limit_tokens To t) k.1 in
          limits_derived_lem _ _ _ (overs_derived o k.0) (limit_given f From j.0) (limit_given t To j.1)

      limit_given : (o : NoOvers) (key : Keyword) → All (Known ns) (limit_tokens key o) → Given (limit_field ns o)
      limit_given grammar.no_overs key h = absent refl
      limit_given (grammar.some_overs o) key (all_cons k h) = there (overs_derived o h).field

      overs_derived : (o : Overs) → All (Known ns) (overs_tokens o) → OperandDerived (overs_operand ns o)
      overs_derived (grammar.single s) h = scripted_derived s h
      overs_derived (grammar.fraction o s) h =
          let k = all_split (overs_tokens o) (keyword Over ∷ scripted_tokens s) h in
          fraction_derived_lem _ _ (overs_derived o k.0) (scripted_derived s (all_tail k.1))

      scripted_derived : (s : grammar.Scripted) → All (Known ns) (scripted_tokens s) → OperandDerived (scripted_operand ns s)
      scripted_derived (grammar.scripted p b q) h =
          let k = all_split (primary_tokens p) (script_tokens Sub b ++ script_tokens Sup q) h in
          let j = all_split (script_tokens Sub b) (script_tokens Sup q) k.1 in
          atom_derived_lem _ _ _ (primary_derived p k.0) (script_given b Sub j.0) (script_given q Sup j.1)

      script_given : (p : NoPrimary) (key : Keyword) → All (Known ns) (script_tokens key p) → Given (script_field ns p)
      script_given no_primary key h = absent refl
      script_given (some_primary p) key (all_cons k h) = there (primary_derived p h).any

      primary_derived : (p : Primary) → All (Known ns) (primary_tokens p) → NucleusDerived (primary_nucleus ns p)
      primary_derived (grammar.named w) (all_cons k h) = word_derived w (has_name ns w k)
      primary_derived (grammar.braced r) (all_cons k h) =
          let inner = row_of_items r (all_split (row_tokens r) (closing ∷ []) h).0 in
          record { any = (grammar.braced inner.0, rw inner.1); own = (grammar.braced inner.0, rw inner.1) }
