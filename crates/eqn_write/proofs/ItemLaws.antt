-- The tokens of a readable list, of its items and of their fields, by what the code finds in the bytes.
--     empty_nothing, there_some     a field is nothing in a derivation exactly if it says that it is empty
--     Three, atom_fields, operator_fields, barred_end     the fields of an item, and where it ends
--     item_atom, item_operator, item_limitless, item_barred, item_unmade     an item by its form
--     row_text, row_first, row_other     a list by its first item
--     row_none                      a list without items
-- By the form: it says whether an item has a third field, and which law of `FormLaws` gives its tokens.
-- Assumes nothing.
use mathlib.Core.Path.{◌≡◌, refl, sym, ap, subst, ◌∙◌}
use mathlib.Core.Bool.{Bool, true, false, ◌&&◌, true≢false, false≢true}
use mathlib.Core.List.{List, []}
use mathlib.Core.Option.{Option, none, some}
use Prim.Native.Nat.{ℕ, ◌<◌}
use native.Mathlib.Omega.{arith}
use lib.ListN.{length, drop}
use Rattle.laws.specs.Truths.{both_true, true_both}
use Rattle.eqn_tokens.specs.Tokens.{Token, keyword}
use Rattle.eqn_names.specs.Names.{Name, Asked, any_class, of_class, first_for}
use Rattle.formula.specs.declared.Limits.TheVariants.{DisplayOnly, Always, Never}
use Rattle.formula.specs.declared.Bar.TheVariants.{Default, Without}
use Rattle.formula.specs.declared.Base.TheVariants.{Atom, Over, Under, Root, Fence}
use Rattle.formula.specs.declared.Kind.{Kind}
use Rattle.formula.specs.declared.Kind.TheVariants.{Scripted, Fraction}
use Rattle.formula.specs.declared.Opening.{Opening}
use Rattle.formula.specs.declared.Opening.TheVariants.{NoItem, Fields, Kern, Restyle, Choice}
use Rattle.formula.specs.declared.FieldHead.{FieldHead}
use Rattle.formula.specs.declared.FieldHead.TheVariants.{NoField, Empty, Symbol, Sublist, CutSublist}
use Rattle.formula.specs.Tree.{Items, opening_bytes}
use Rattle.formula.specs.Heads.{opening_of, is_op, is_empty}
use Rattle.formula.specs.Places.{Readable, tree_of, field_of, GoodField, has_third, head_at, field_end, second, third, third_end, end, item_size, third_in, item_of, GoodFieldAt}
use Rattle.formula.specs.PlacesLaws.{tree_none, step, third_good, Noad}
use Rattle.eqn_grammar.specs.Grammar.{Row, Limited, row_tokens}
use Rattle.eqn_meaning.specs.Writing.{Derived, nothing, as_word, as_group, ItemForm, plain_atom, operator, barred, unmade, form_of, derived_by, beside_of, row_of, expression_of, operand_of}
use Rattle.eqn_write.specs.Values.{tokens_of_row}
use Rattle.eqn_write.specs.Writes.{joined, of_item, derived_field, scripted_tokens, fraction_tokens, item_tokens}
use Rattle.eqn_write.proofs.FormLaws.{atom_tokens, limits_tokens, limitless, fraction_tokens_lem}
use Rattle.eqn_tokens.specs.declared.tokens.Keyword.TheVariants.{Over, Sub, Sup, From, To}

-- ---- a field

module _ (ns : List Name) where
  pub empty_nothing : (s : List ℕ) (h : FieldHead) (asked : Asked) → is_empty h ≡ true → operand_of ns (field_of s h) asked ≡ nothing
  unfolding operand_of
  empty_nothing s NoField asked e = refl
  empty_nothing s Empty asked e = refl
  empty_nothing s (Symbol family code) asked e = absurd (false≢true e)
  empty_nothing s (Sublist opening n) asked e = absurd (false≢true e)
  empty_nothing s CutSublist asked e = refl

  word_some : (o : Option Name) → as_word o ≡ nothing → ⊥
  word_some none e = let no : ◌≡◌ {A = ℕ} 0 1 = cc in omega arith
  word_some (some m) e = let no : ◌≡◌ {A = ℕ} 0 1 = cc in omega arith

  group_some : (o : Option Row) → as_group o ≡ nothing → ⊥
  group_some none e = let no : ◌≡◌ {A = ℕ} 0 1 = cc in omega arith
  group_some (some r) e = let no : ◌≡◌ {A = ℕ} 0 1 = cc in omega arith

  pub there_some : (s : List ℕ) (h : FieldHead) → GoodField s h → operand_of ns (field_of s h) any_class ≡ nothing → is_empty h ≡ true
  unfolding operand_of
  there_some s NoField g e = absurd g
  there_some s Empty g e = refl
  there_some s (Symbol family code) g e = absurd (word_some (first_for family code any_class ns) e)
  there_some s (Sublist opening n) g e = absurd (group_some (row_of ns (tree_of _)) e)
  there_some s CutSublist g e = absurd g

-- ---- an item with three fields

abbrev IsScripted : ItemForm → Type 0
IsScripted (plain_atom k) = Unit {0}
IsScripted operator = Unit {0}
IsScripted barred = ⊥
IsScripted unmade = ⊥

third_there_lem : (kind : Kind) → IsScripted (form_of kind) → has_third kind ≡ true
third_there_lem (Scripted base) h = refl
third_there_lem (Fraction Default) h = absurd h
third_there_lem (Fraction Without) h = absurd h

abbrev IsBarred : ItemForm → Type 0
IsBarred (plain_atom k) = ⊥
IsBarred operator = ⊥
IsBarred barred = Unit {0}
IsBarred unmade = ⊥

op_bare : (b : Bool) → IsBarred (elim b [ true ↦ operator | false ↦ unmade ]) → ⊥
op_bare true h = h
op_bare false h = h

two_there : (kind : Kind) → IsBarred (form_of kind) → has_third kind ≡ false
two_there (Scripted (Atom class DisplayOnly)) h = absurd h
two_there (Scripted (Atom class Always)) h = absurd (op_bare (is_op class) h)
two_there (Scripted (Atom class Never)) h = absurd h
two_there (Scripted Over) h = absurd h
two_there (Scripted Under) h = absurd h
two_there (Scripted (Root sign)) h = absurd h
two_there (Scripted (Fence left right)) h = absurd h
two_there (Fraction bar) h = refl

module _ (s : List ℕ) (kind : Kind) where
  pub record Three : Type 0 where
    pub x : GoodFieldAt s (opening_bytes kind)
    pub y : GoodFieldAt s (second s kind)
    pub z : GoodFieldAt s (third s kind)
    pub ends : field_end s (third s kind) ≡ end s kind

  three_fields : Noad s kind → IsScripted (form_of kind) → Three
  three_fields n h =
      let has = third_there_lem kind h in
      record {
        x = n.x;
        y = n.y;
        z = third_good s (has_third kind) (third s kind) has n.z;
        ends = sym (ap (λ (b : Bool). third_end s b (third s kind)) has);
      }

  pub atom_fields : (k : ℕ) → form_of kind ≡ plain_atom k → Noad s kind → Three
  atom_fields k e n = three_fields n (subst IsScripted (sym e) tt)

  pub operator_fields : form_of kind ≡ operator → Noad s kind → Three
  operator_fields e n = three_fields n (subst IsScripted (sym e) tt)

  pub barred_end : form_of kind ≡ barred → third s kind ≡ end s kind
  barred_end e = sym (ap (λ (b : Bool). third_end s b (third s kind)) (two_there kind (subst IsBarred (sym e) tt)))

  module _ (ns : List Name) where
    abbrev x : Asked → Derived
    x asked = derived_field (drop (opening_bytes kind) s) asked ns

    abbrev y : Derived
    y = derived_field (drop (second s kind) s) any_class ns

    abbrev z : Derived
    z = derived_field (drop (third s kind) s) any_class ns

    scripted_item : (form : ItemForm) → form_of kind ≡ form → IsScripted form → item_tokens kind s ns ≡ of_item (derived_by form x y z)
    unfolding expression_of
    scripted_item form e h =
        let has = third_there_lem kind (subst IsScripted (sym e) h) in
        ap (λ (b : Bool). of_item (derived_by (form_of kind) x y (operand_of ns (third_in s b (third s kind)) any_class))) has
        ∙ ap (λ (w : ItemForm). of_item (derived_by w x y z)) e

    pub item_atom : (k : ℕ) → form_of kind ≡ plain_atom k → item_tokens kind s ns ≡ scripted_tokens (keyword Sub) (keyword Sup) (of_class k) s (opening_bytes kind) ns
    unfolding derived_by
    item_atom k e = scripted_item (plain_atom k) e tt ∙ atom_tokens (x (of_class k)) y z

    -- the two fields behind the nucleus are empty
    abbrev no_limits : Bool
    no_limits = is_empty (head_at s (second s kind)) && is_empty (head_at s (third s kind))

    pub item_operator : form_of kind ≡ operator → Noad s kind → no_limits ≡ false →
        item_tokens kind s ns ≡ scripted_tokens (keyword From) (keyword To) any_class s (opening_bytes kind) ns
    unfolding derived_by
    item_operator e n some_there =
        let good = operator_fields e n in
        scripted_item operator e tt ∙ limits_tokens (x any_class) y z (λ f g.
        true≢false
        (sym (true_both (there_some ns (drop (second s kind) s) (head_at s (second s kind)) good.y f)
        (there_some ns (drop (third s kind) s) (head_at s (third s kind)) good.z g))
        ∙ some_there))

    pub item_limitless : form_of kind ≡ operator → no_limits ≡ true → item_tokens kind s ns ≡ none
    unfolding derived_by
    item_limitless e none_there =
        let both = both_true {p = is_empty (head_at s (second s kind))} none_there in
        scripted_item operator e tt ∙ limitless (x any_class) y z (empty_nothing ns (drop (second s kind) s) (head_at s (second s kind)) any_class both.0) (empty_nothing ns (drop (third s kind) s) (head_at s (third s kind)) any_class both.1)

    pub item_barred : form_of kind ≡ barred → item_tokens kind s ns ≡ fraction_tokens s (opening_bytes kind) ns
    unfolding expression_of derived_by
    item_barred e =
        ap (λ (w : ItemForm). of_item (derived_by w x y (operand_of ns (third_in s (has_third kind) (third s kind)) any_class))) e ∙ fraction_tokens_lem (x any_class) y

    pub item_unmade : form_of kind ≡ unmade → item_tokens kind s ns ≡ none
    unfolding expression_of derived_by
    item_unmade e = ap (λ (w : ItemForm). of_item (derived_by w x y (operand_of ns (third_in s (has_third kind) (third s kind)) any_class))) e

-- ---- a list

abbrev pub row_text : List ℕ → List Name → Option (List Token)
row_text s ns = tokens_of_row (row_of ns (tree_of s))

beside_tokens : (o : Option Limited) (p : Option Row) → tokens_of_row (beside_of o p) ≡ joined (of_item o) (tokens_of_row p)
unfolding row_tokens
beside_tokens none p = refl
beside_tokens (some l) none = refl
beside_tokens (some l) (some r) = refl

module _ (s : List ℕ) (readable : Readable s) (some_there : 0 < length s) (ns : List Name) where
  row_opened : (o : Opening) → opening_of s ≡ o → row_text s ns ≡ joined (of_item (expression_of ns (item_of s o))) (row_text (drop (item_size s o) s) ns)
  unfolding row_of
  row_opened o e = ap (λ (l : Items). tokens_of_row (row_of ns l)) (step s o e readable some_there).tree
      ∙ beside_tokens (expression_of ns (item_of s o)) (row_of ns (tree_of (drop (item_size s o) s)))

  pub row_first : (kind : Kind) → opening_of s ≡ Fields kind → row_text s ns ≡ joined (item_tokens kind s ns) (row_text (drop (end s kind) s) ns)
  row_first kind e = row_opened (Fields kind) e

  pub row_other : ((kind : Kind) → opening_of s ≡ Fields kind → ⊥) → row_text s ns ≡ none
  unfolding expression_of
  row_other no_fields = go (opening_of s) refl
    where
      go : (o : Opening) → opening_of s ≡ o → row_text s ns ≡ none
      go NoItem e = row_opened NoItem e
      go (Fields kind) e = absurd (no_fields kind e)
      go (Kern n) e = row_opened (Kern n) e
      go (Restyle n) e = row_opened (Restyle n) e
      go Choice e = row_opened Choice e

pub row_none : (s : List ℕ) (ns : List Name) → length s ≡ 0 → row_text s ns ≡ some []
unfolding row_of row_tokens
row_none s ns e = ap (λ (l : Items). tokens_of_row (row_of ns l)) (tree_none s e).1
