-- An item by its form: what is asked of the functions that write its fields, and what they promise of the item.
--     fields_within                 its first field lies in it
--     atom_asked, operator_asked, barred_asked     what is asked for its fields
--     atom_done, operator_done, barred_done        its fields have been written
--     limitless_done, unmade_done   an operator without limits, and an item that the reader does not make, have no text
-- Assumes nothing.
use mathlib.Core.Path.{◌≡◌, refl, sym, subst}
use mathlib.Core.Bool.{Bool, true, false, ◌&&◌}
use mathlib.Core.List.{List}
use Prim.Native.Nat.{ℕ, ◌≤◌}
use native.Mathlib.Omega.{arith}
use lib.ListN.{length}
use Rattle.eqn_tokens.specs.Bytes.{same}
use Rattle.eqn_tokens.specs.Tokens.{sub_bytes, sup_bytes, from_bytes, to_bytes, keyword_of, keyword}
use Rattle.eqn_names.specs.Names.{any_class, of_class}
use Rattle.formula.specs.declared.Kind.{Kind}
use Rattle.formula.specs.Tree.{opening_bytes}
use Rattle.formula.specs.Heads.{is_empty}
use Rattle.formula.specs.Places.{head_at, field_end, second, third}
use Rattle.formula.specs.PlacesLaws.{Noad, noad_at_lem}
use Rattle.eqn_meaning.specs.Writing.{plain_atom, operator, barred, unmade, form_of}
use Rattle.std.specs.Prelude.{None}
use Rattle.eqn_write.specs.Values.{Put}
use Rattle.eqn_write.specs.Writes.{item_tokens, TwoAsked, ThreeAsked, ItemAsked, FractionPut, ScriptedPut, ItemPut}
use Rattle.eqn_write.proofs.ItemLaws.{Three, atom_fields, operator_fields, barred_end, item_atom, item_operator, item_limitless, item_barred, item_unmade}
use Rattle.eqn_write.proofs.FieldsLaws.{puts_as}
use Rattle.eqn_tokens.specs.declared.tokens.Keyword.TheVariants.{Sub, Sup, From, To}

module _ (table s : List ℕ) (kind : Kind) (at : ℕ) (asked : ItemAsked table s kind at) {first : ℕ} (starts : first ≡ opening_bytes kind) where
  item : Noad s kind
  item = noad_at_lem s kind asked.opens asked.readable

  pub fields_within : first ≤ length s
  fields_within = omega (arith, item.first_in, item.second_in, item.third_in_lem, item.end_in)

  three_asked : (lower upper : List ℕ) → length lower ≤ 4 → length upper ≤ 4 → Three s kind → ThreeAsked table s first lower upper at
  three_asked lower upper low up fields =
      subst (λ (i : ℕ). ThreeAsked table s i lower upper at) (sym starts)
      (record {
        has = asked.has;
        within = omega (arith, fields_within);
        x = fields.x;
        y = fields.y;
        z = fields.z;
        short = (low, up);
        room = omega (arith, asked.room, fields.ends);
      })

  module _ {k : ℕ} (form : form_of kind ≡ plain_atom k) where
    pub atom_asked : ThreeAsked table s first sub_bytes sup_bytes at
    atom_asked = three_asked sub_bytes sup_bytes (omega arith) (omega arith) (atom_fields s kind k form item)

    pub atom_done : {b b₁ : List ℕ} {r : Put} → ScriptedPut table s first (keyword_of sub_bytes) (keyword_of sup_bytes) (of_class k) at b b₁ r →
        ItemPut table s kind at b b₁ r
    unfolding keyword_of same
    atom_done {b} {b₁} {r} f =
        puts_as (item_tokens kind s) (subst (λ (i : ℕ). ScriptedPut table s i (keyword Sub) (keyword Sup) (of_class k) at b b₁ r) starts f) (λ ns. item_atom s kind ns k form)
        (omega arith) (omega (arith, (atom_fields s kind k form item).ends))

  module _ (form : form_of kind ≡ operator) where
    pub operator_asked : ThreeAsked table s first from_bytes to_bytes at
    operator_asked = three_asked from_bytes to_bytes (omega arith) (omega arith) (operator_fields s kind form item)

    -- the two fields behind the nucleus are empty
    abbrev no_limits : Bool
    no_limits = is_empty (head_at s (field_end s first)) && is_empty (head_at s (field_end s (field_end s first)))

    limits_as : {t : Bool} → no_limits ≡ t → (is_empty (head_at s (second s kind)) && is_empty (head_at s (third s kind))) ≡ t
    limits_as {t} e = subst (λ (i : ℕ). (is_empty (head_at s (field_end s i)) && is_empty (head_at s (field_end s (field_end s i)))) ≡ t) starts e

    pub operator_done : {b b₁ : List ℕ} {r : Put} → no_limits ≡ false →
        ScriptedPut table s first (keyword_of from_bytes) (keyword_of to_bytes) any_class at b b₁ r → ItemPut table s kind at b b₁ r
    unfolding keyword_of same
    operator_done {b} {b₁} {r} there f =
        puts_as (item_tokens kind s) (subst (λ (i : ℕ). ScriptedPut table s i (keyword From) (keyword To) any_class at b b₁ r) starts f)
        (λ ns. item_operator s kind ns form item (limits_as there)) (omega arith) (omega (arith, (operator_fields s kind form item).ends))

    pub limitless_done : {b : List ℕ} → no_limits ≡ true → ItemPut table s kind at b b None
    limitless_done none_there =
        record { ends = tt; text = λ ns rs. record { none_are = item_limitless s kind ns form (limits_as none_there); as_long = refl } }

  module _ (form : form_of kind ≡ barred) where
    pub barred_asked : TwoAsked table s first at
    barred_asked =
        subst (λ (i : ℕ). TwoAsked table s i at) (sym starts)
        (record {
          has = asked.has;
          within = omega (arith, fields_within);
          x = item.x;
          y = item.y;
          room = omega (arith, asked.room, barred_end s kind form);
        })

    pub barred_done : {b b₁ : List ℕ} {r : Put} → FractionPut table s first at b b₁ r → ItemPut table s kind at b b₁ r
    barred_done {b} {b₁} {r} f =
        puts_as (item_tokens kind s) (subst (λ (i : ℕ). FractionPut table s i at b b₁ r) starts f) (λ ns. item_barred s kind ns form)
        (omega arith) (omega (arith, barred_end s kind form))

  pub unmade_done : {b : List ℕ} → form_of kind ≡ unmade → ItemPut table s kind at b b None
  unmade_done form = record { ends = tt; text = λ ns rs. record { none_are = item_unmade s kind ns form; as_long = refl } }
