-- The derivation that a formula is written as means that formula.
--     FieldMeant, ItemIf, RowIf     what is shown of the derivation of a field, an item and a list: that it means it, if there is one,
--                                   and that each of its tokens is one that the writer makes
--     items_of_row                  so for the derivation of a tidy list
-- Field by field: a field is a word or a group that means it, of the class that was asked for. Item by item the cases are those of the
-- form.
-- Assumes nothing.
use Rattle.std.specs.Prelude.{◌≡◌, Bool, true, false, ◌&&◌, List, ℕ, eqb}
use Rattle.std.proofs.Math.Path.{refl, sym, ap}
use Rattle.std.proofs.Common.{subst, ◌∙◌, eqb-true}
use Rattle.std.proofs.Math.Option.{Option, none, some}
use Rattle.formula.specs.declared.Class.{Class}
use Rattle.formula.specs.declared.Class.TheVariants.{Ord, Op, Bin, Rel, Open, Close, Punct, Inner}
use Rattle.formula.specs.declared.Limits.TheVariants.{DisplayOnly, Always, Never}
use Rattle.formula.specs.declared.Bar.TheVariants.{Default, Without}
use Rattle.formula.specs.declared.Base.TheVariants.{Atom, Over, Under, Root, Fence}
use Rattle.formula.specs.declared.Kind.{Kind}
use Rattle.formula.specs.declared.Kind.TheVariants.{Scripted, Fraction}
use Rattle.formula.specs.Tree.{Items, Item, Field, nil, cons, noad, kern, restyle, choice, empty, symbol, list}
use Rattle.formula.specs.Heads.{class_number}
use Rattle.eqn_tokens.specs.Tokens.{word}
use Rattle.eqn_names.specs.Names.{Name, Asked, any_class, of_class, has_class, first_for}
use Rattle.eqn_names.proofs.NamesLaws.{first_is}
use Rattle.eqn_grammar.specs.Grammar as grammar
use Rattle.eqn_grammar.specs.Grammar.{Row, Limited, NoPrimary, no_primary, some_primary, Primary, row_tokens, limited_tokens, limit_tokens, overs_tokens, scripted_tokens, script_tokens, primary_tokens}
use Rattle.eqn_grammar.specs.Parsing.{bare}
use Rattle.eqn_meaning.specs.Meaning.{class_of, is_absent, atom_of, limits_of, row_items, limited_item, limit_field, overs_operand, scripted_operand, script_field, primary_nucleus}
use Rattle.eqn_meaning.specs.MeaningLaws.{primary_there}
use Rattle.eqn_meaning.specs.Writing.{Derived, nothing, operand, textless, as_word, as_group, group_for, with_script, with_operand, single, limit, atom_derived, limits_on, limits_derived, fraction_derived, atom_form, form_of, derived_by, beside_of, row_of, expression_of, operand_of}
use Rattle.eqn_promises.specs.TidyLaws.{TidyThird, Tidy, TidyItem, TidyField}
use Rattle.eqn_promises.specs.Known.{All, all_nil, all_cons, all_append, GoodNames, Written}
use Rattle.eqn_tokens.specs.declared.tokens.Keyword.TheVariants.{Sub, Sup, From, To}
use Rattle.eqn_tokens.specs.declared.tokens.Keyword.{Keyword}

-- ---- classes

class_again : (class : Class) → class_of (class_number class) ≡ class
class_again Ord = refl
class_again Op = refl
class_again Bin = refl
class_again Rel = refl
class_again Open = refl
class_again Close = refl
class_again Punct = refl
class_again Inner = refl

abbrev ClassFor : Asked → Class → Type 0
ClassFor any_class class = Unit {0}
ClassFor (of_class k) class = class ≡ class_of k

class_for : (asked : Asked) (class : ℕ) → has_class asked class ≡ true → ClassFor asked (class_of class)
class_for any_class class t = tt
class_for (of_class k) class t = ap class_of (eqb-true class k t)

-- ---- a derivation means the tree that it is of

module _ (ns : List Name) where
  record Operates (x : Field) (asked : Asked) (p : Primary) : Type 0 where
    field : (primary_nucleus ns p).field ≡ x
    class : ClassFor asked (primary_nucleus ns p).class
    tokens : All (Written ns) (primary_tokens p)

  abbrev FieldMeant : Field → Asked → Derived → Type 0
  FieldMeant x asked nothing = x ≡ empty
  FieldMeant x asked (operand p) = Operates x asked p
  FieldMeant x asked textless = Unit {0}

  -- a script or a limit, if it is there
  record Scripts (x : Field) (p : NoPrimary) : Type 0 where
    field : script_field ns p ≡ x
    tokens : (k : Keyword) → All (Written ns) (script_tokens k p)

  record ItemMeant (i : Item) (l : Limited) : Type 0 where
    item : limited_item ns l ≡ i
    tokens : All (Written ns) (limited_tokens l)

  abbrev ItemIf : Item → Option Limited → Type 0
  ItemIf i none = Unit {0}
  ItemIf i (some l) = ItemMeant i l

  pub record RowMeant (l : Items) (r : Row) : Type 0 where
    pub items : row_items ns r ≡ l
    pub tokens : All (Written ns) (row_tokens r)

  abbrev RowIf : Items → Option Row → Type 0
  RowIf l none = Unit {0}
  RowIf l (some r) = RowMeant l r

  with_operand_lem : {x : Field} {asked : Asked} (i : Item) (f : Primary → Option Limited) (d : Derived) → FieldMeant x asked d →
      ((p : Primary) → Operates x asked p → ItemIf i (f p)) → ItemIf i (with_operand f d)
  with_operand_lem i f nothing m g = tt
  with_operand_lem i f (operand p) m g = g p m
  with_operand_lem i f textless m g = tt

  with_script_lem : {x : Field} (i : Item) (f : NoPrimary → Option Limited) (d : Derived) → FieldMeant x any_class d →
      ((p : NoPrimary) → Scripts x p → ItemIf i (f p)) → ItemIf i (with_script f d)
  unfolding script_field script_tokens
  with_script_lem i f nothing m g = g no_primary (record { field = sym m; tokens = λ k. all_nil })
  with_script_lem i f (operand p) m g = g (some_primary p) (record { field = m.field; tokens = λ k. all_cons tt m.tokens })
  with_script_lem i f textless m g = tt

  -- ---- items

  single_tokens : (p : Primary) → All (Written ns) (primary_tokens p) → All (Written ns) (overs_tokens (single p))
  unfolding overs_tokens scripted_tokens script_tokens
  single_tokens p h = all_append h all_nil

  limit_field_lem : (p : NoPrimary) → limit_field ns (limit p) ≡ script_field ns p
  unfolding limit_field overs_operand scripted_operand script_field atom_of
  limit_field_lem no_primary = refl
  limit_field_lem (some_primary p) = refl

  limit_tokens_lem : (p : NoPrimary) (k : Keyword) → All (Written ns) (script_tokens k p) → All (Written ns) (limit_tokens k (limit p))
  unfolding limit_tokens script_tokens
  limit_tokens_lem no_primary k h = h
  limit_tokens_lem (some_primary p) k (all_cons w h) = all_cons w (single_tokens p h)

  module _ {x y z : Field} (p : Primary) (f t : NoPrimary) (nucleus : Operates x any_class p) (lower : Scripts z f) (upper : Scripts y t) where
    -- one of the limits is there
    limits_so : (is_absent (script_field ns f) && is_absent (script_field ns t)) ≡ false →
        ItemMeant (noad (Scripted (Atom Op Always)) x y z) (grammar.limited (single p) (limit f) (limit t))
    unfolding limited_item overs_operand scripted_operand limits_of atom_of limited_tokens
    limits_so e =
        record {
          item = rw (limit_field_lem f, limit_field_lem t, e, limits_of) (cc (limit_field_lem f, limit_field_lem t));
          tokens =
              all_append (single_tokens p nucleus.tokens)
              (all_append (limit_tokens_lem f From (lower.tokens From)) (limit_tokens_lem t To (upper.tokens To)));
        }

  limits_on_lem : {x y z : Field} (p : Primary) (f t : NoPrimary) → Operates x any_class p → Scripts z f → Scripts y t →
      ItemIf (noad (Scripted (Atom Op Always)) x y z) (limits_on p f t)
  unfolding script_field
  limits_on_lem p no_primary no_primary nucleus lower upper = tt
  limits_on_lem p no_primary (some_primary t) nucleus lower upper = limits_so p no_primary (some_primary t) nucleus lower upper (primary_there ns t)
  limits_on_lem p (some_primary f) t nucleus lower upper = limits_so p (some_primary f) t nucleus lower upper (rw (primary_there ns f))

  module _ (x y z : Field) (X : Asked → Derived) (Y Z : Derived) (first : (asked : Asked) → FieldMeant x asked (X asked))
      (second : FieldMeant y any_class Y) (third : FieldMeant z any_class Z) where
    atom_meant : (class : Class) → ItemIf (noad (Scripted (Atom class DisplayOnly)) x y z) (atom_derived (X (of_class (class_number class))) Y Z)
    unfolding limited_item limit_field overs_operand scripted_operand limits_of atom_of limited_tokens limit_tokens overs_tokens scripted_tokens
    atom_meant class =
        let i = noad (Scripted (Atom class DisplayOnly)) x y z in
        let asked = of_class (class_number class) in
        with_operand_lem i _ (X asked) (first asked) (λ p nucleus.
        with_script_lem i _ Y second (λ q super.
        with_script_lem i (λ b. some (grammar.limited (grammar.single (grammar.scripted p b q)) grammar.no_overs grammar.no_overs)) Z third (λ b under.
        record {
          item = cc (nucleus.class ∙ class_again class);
          tokens = all_append (all_append nucleus.tokens (all_append (under.tokens Sub) (super.tokens Sup))) all_nil;
        })))

    limits_meant : ItemIf (noad (Scripted (Atom Op Always)) x y z) (limits_derived (X any_class) Y Z)
    limits_meant =
        let i = noad (Scripted (Atom Op Always)) x y z in
        with_operand_lem i _ (X any_class) (first any_class) (λ p nucleus.
        with_script_lem i _ Y second (λ t upper.
        with_script_lem i _ Z third (λ f lower.
        limits_on_lem p f t nucleus lower upper)))

    fraction_meant : z ≡ empty → ItemIf (noad (Fraction Default) x y z) (fraction_derived (X any_class) Y)
    unfolding limited_item limit_field overs_operand scripted_operand script_field limits_of atom_of limited_tokens limit_tokens overs_tokens scripted_tokens script_tokens
    fraction_meant two =
        let i = noad (Fraction Default) x y z in
        with_operand_lem i _ (X any_class) (first any_class) (λ p above.
        with_operand_lem i (λ q. some (grammar.limited (grammar.fraction (single p) (bare q)) grammar.no_overs grammar.no_overs)) Y second (λ q below.
        record {
          item = cc;
          tokens = all_append (all_append (single_tokens p above.tokens) (all_cons tt (single_tokens q below.tokens))) all_nil;
        }))

    -- limits 1
    operator_meant : (class : Class) → ItemIf (noad (Scripted (Atom class Always)) x y z) (derived_by (atom_form class Always) X Y Z)
    unfolding derived_by
    operator_meant Ord = tt
    operator_meant Op = limits_meant
    operator_meant Bin = tt
    operator_meant Rel = tt
    operator_meant Open = tt
    operator_meant Close = tt
    operator_meant Punct = tt
    operator_meant Inner = tt

    form_meant : (kind : Kind) → TidyThird kind z → ItemIf (noad kind x y z) (derived_by (form_of kind) X Y Z)
    unfolding derived_by
    form_meant (Scripted (Atom class DisplayOnly)) h = atom_meant class
    form_meant (Scripted (Atom class Always)) h = operator_meant class
    form_meant (Scripted (Atom class Never)) h = tt
    form_meant (Scripted Over) h = tt
    form_meant (Scripted Under) h = tt
    form_meant (Scripted (Root sign)) h = tt
    form_meant (Scripted (Fence left right)) h = tt
    form_meant (Fraction Default) h = fraction_meant h
    form_meant (Fraction Without) h = tt

  -- ---- fields and lists

  group_as : (l : Items) (asked : Asked) (o : Option Row) → ClassFor asked Ord → RowIf l o → FieldMeant (list l) asked (as_group o)
  unfolding primary_nucleus primary_tokens
  group_as l asked none c h = tt
  group_as l asked (some r) c h =
      record { field = ap list h.items; class = c; tokens = all_cons tt (all_append h.tokens (all_cons tt all_nil)) }

  group_meant : (l : Items) (asked : Asked) (o : Option Row) → RowIf l o → FieldMeant (list l) asked (group_for asked o)
  group_meant l any_class o h = group_as l any_class o tt h
  group_meant l (of_class k) o h = go (eqb k (class_number Ord)) refl
    where
      go : (t : Bool) → eqb k (class_number Ord) ≡ t → FieldMeant (list l) (of_class k) (elim t [ true ↦ as_group o | false ↦ textless ])
      go true e = group_as l (of_class k) o (ap class_of (sym (eqb-true k (class_number Ord) e))) h
      go false e = tt

  beside_meant : (i : Item) (l : Items) (o : Option Limited) (p : Option Row) → ItemIf i o → RowIf l p → RowIf (cons i l) (beside_of o p)
  unfolding row_items row_tokens
  beside_meant i l none p h k = tt
  beside_meant i l (some o) none h k = tt
  beside_meant i l (some o) (some r) h k = record { items = cc; tokens = all_append h.tokens k.tokens }

  module _ (good : GoodNames ns) where
    word_meant : (family code : ℕ) (asked : Asked) (o : Option Name) → first_for family code asked ns ≡ o →
        FieldMeant (symbol family code) asked (as_word o)
    unfolding primary_nucleus primary_tokens
    word_meant family code asked none e = tt
    word_meant family code asked (some m) e =
        let is = first_is family code asked ns e in
        let own = (good m is.member).found in
        record {
          field = rw own (cc);
          class = rw own (class_for asked m.class is.has_class_lem);
          tokens = all_cons {t = word m.bytes} (m, own) all_nil;
        }

    mutual
      unfolding row_of Tidy row_items row_tokens

      row_meant : (l : Items) → Tidy l → RowIf l (row_of ns l)
      row_meant nil h = record { items = refl; tokens = all_nil }
      row_meant (cons i l) h = beside_meant i l (expression_of ns i) (row_of ns l) (item_meant i h.0) (row_meant l h.1)

      item_meant : (i : Item) → TidyItem i → ItemIf i (expression_of ns i)
      item_meant (noad kind x y z) h =
          form_meant x y z (λ asked. operand_of ns x asked) (operand_of ns y any_class) (operand_of ns z any_class)
          (λ asked. field_meant x h.1 asked) (field_meant y h.2 any_class) (field_meant z h.3 any_class) kind h.0
      item_meant (kern n) h = tt
      item_meant (restyle n) h = tt
      item_meant (choice d t sc ss) h = tt

      field_meant : (x : Field) → TidyField x → (asked : Asked) → FieldMeant x asked (operand_of ns x asked)
      field_meant empty h asked = refl
      field_meant (symbol family code) h asked = word_meant family code asked (first_for family code asked ns) refl
      field_meant (list l) h asked = group_meant l asked (row_of ns l) (row_meant l h)

    pub items_of_row : (l : Items) (r : Row) → Tidy l → row_of ns l ≡ some r → RowMeant l r
    items_of_row l r h e = subst (RowIf l) e (row_meant l h)
