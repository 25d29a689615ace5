-- The parts of an item, written one behind the other: what each function promises, from what its calls promise.
--     lent_at, lent_length          what is lent of the bytes from a place on
--     then_puts, fail_puts          a part behind another, and behind one that has no text
--     puts_as                       the same tokens, said in another way, and wider bounds
--     behind_put                    a keyword and a field
--     script_none, script_there     a field that is empty, and one that is not
--     scripted_done, scripted_below, scripted_nucleus     a nucleus and two scripts; one of them without a text
--     fraction_done, fraction_above     numerator and denominator
--     field_other, field_empty, field_symbol, field_list, field_barred     a field by its head
--     group_done, group_textless    a list in braces
-- Assumes nothing.
use mathlib.Core.Path.{◌≡◌, refl, sym, ap, subst, ◌∙◌}
use mathlib.Core.Bool.{true, false, false≢true}
use mathlib.Core.List.{List, [], ◌∷◌}
use mathlib.Core.Option.{Option, none, some}
use Prim.Native.Nat.{ℕ, ◌+◌, ◌-◌, ◌*◌, ◌≤◌, ◌<◌}
use native.Mathlib.Omega.{arith}
use lib.ListN.{length, take, drop, length-drop}
use lib.Seq.{sets}
use Rattle.eqn_tokens.specs.Tokens.{Token, opening, closing, keyword_of, token_bytes, keyword}
use Rattle.eqn_tokens.specs.BytesLaws.{rest_lent}
use Rattle.eqn_tokens.specs.TokensLaws.{keyword_bytes_lem}
use Rattle.eqn_names.specs.Names.{Name, Asked, any_class, asked_as}
use Rattle.formula.specs.declared.FieldHead.{FieldHead}
use Rattle.formula.specs.declared.FieldHead.TheVariants.{NoField, Empty, Symbol, Sublist, CutSublist}
use Rattle.formula.specs.Tree.{empty}
use Rattle.formula.specs.Heads.{field_head, is_empty}
use Rattle.formula.specs.HeadLaws.{list_opening_lem, opening_some}
use Rattle.formula.specs.Places.{tree_of, head_bytes, contents, field_of, GoodField, field_end}
use Rattle.eqn_grammar.specs.Grammar.{Row, primary_tokens}
use Rattle.eqn_meaning.specs.Writing.{as_group, group_for, row_of, operand_of}
use Rattle.std.specs.Prelude.{Option as CodeOption, Some, None}
use Rattle.eqn_write.specs.Values.{Put, takes_group, token_text, Texted, TextPut, HasNames, tokens_of_row, ListPut}
use Rattle.eqn_write.specs.Writes.{joined, of_operand, derived_field, field_tokens, behind_tokens, script_tokens, front_bytes, Ends, Puts, NamePut, GroupPut, FieldPut, BehindPut, ScriptPut, FractionPut, ScriptedPut}
use Rattle.eqn_write.proofs.PutLaws.{token_put, nothing_put, put_then, put_none}
use Rattle.eqn_write.proofs.NameLaws.{text_size}
use Rattle.eqn_write.proofs.FormLaws.{script_nothing, script_behind, group_asked, group_barred}
use Rattle.eqn_write.proofs.ItemLaws.{empty_nothing, there_some}
use Rattle.eqn_tokens.specs.declared.tokens.Keyword.TheVariants.{Over}

-- ---- what is lent

pub lent_at : (s : List ℕ) {i j : ℕ} → i ≡ j → take (length s - i) (drop i s) ≡ drop j s
lent_at s {i} e = rest_lent i s ∙ ap (λ (k : ℕ). drop k s) e

pub lent_length : (s : List ℕ) (i : ℕ) → length (take (length s - i) (drop i s)) ≤ length s
lent_length s i = omega (arith, ap (λ (l : List ℕ). length l) (rest_lent i s), length-drop i s)

-- ---- one part behind another

ends_more : {l m l₂ m₂ : ℕ} (r : Put) → l₂ ≤ l → m ≤ m₂ → Ends l m r → Ends l₂ m₂ r
ends_more (Some e) below above h = (omega arith, omega arith)
ends_more None below above h = tt

module _ {table : List ℕ} {o : List Name → Option (List Token)} (p : List Name → Option (List Token)) {l m l₂ m₂ at : ℕ} {b b₁ : List ℕ} where
  pub puts_as : {r : Put} → Puts table o l m at b b₁ r → ((ns : List Name) → p ns ≡ o ns) → l₂ ≤ l → m ≤ m₂ → Puts table p l₂ m₂ at b b₁ r
  puts_as {r} f same below above =
      record {
        ends = ends_more r below above f.ends;
        text = λ ns rs. subst (λ (q : Option (List Token)). TextPut q at b b₁ r) (sym (same ns)) (f.text ns rs);
      }

  pub fail_puts : Puts table o l m at b b₁ None → Puts table (λ ns. joined (o ns) (p ns)) l₂ m₂ at b b₁ None
  fail_puts f = record { ends = tt; text = λ ns rs. put_none (p ns) (f.text ns rs) }

  pub then_puts : {e l₃ m₃ : ℕ} {b₂ : List ℕ} {r : Put} → 0 < e → Puts table o l m at b b₁ (Some e) → Puts table p l₃ m₃ e b₁ b₂ r → l₂ ≤ l₃ → m₃ ≤ m₂ →
      Puts table (λ ns. joined (o ns) (p ns)) l₂ m₂ at b b₂ r
  then_puts {b₂ = b₂} {r} pos f g below above =
      record { ends = ends_more r below above g.ends; text = λ ns rs. put_then (p ns) b₂ r pos (f.text ns rs) (g.text ns rs) }

-- ---- a field behind a keyword

module _ (table s w : List ℕ) {at : ℕ} {b : List ℕ} where
  pub behind_put : {next : ℕ} {b₁ b₂ : List ℕ} {r : Put} → length w ≤ 4 → 0 < at → next ≡ at + length (token_text at w) →
      b₁ ≡ sets b at (token_text at w) → FieldPut table s any_class next b₁ b₂ r → BehindPut table s (keyword_of w) at b b₂ r
  behind_put {next} short pos ends stored f =
      let size = text_size at w in
      let word : Puts table (λ ns. some (keyword_of w ∷ [])) next next at b _ (Some next) =
      record { ends = (omega arith, omega arith); text = λ ns rs. token_put (keyword_of w) (keyword_bytes_lem w) ends stored } in
      then_puts (field_tokens s any_class) (omega arith) word f (omega arith) (omega arith)

  pub script_none : is_empty (field_head s) ≡ true → ScriptPut table s (keyword_of w) at b b (Some at)
  script_none e =
      record {
        ends = (omega arith, omega arith);
        text =
            λ ns rs.
            let none_there = script_nothing (keyword_of w) (derived_field s any_class ns) (empty_nothing ns s (field_head s) any_class e) in
            subst (λ (q : Option (List Token)). Texted q at at b b) (sym none_there) (nothing_put at b);
      }

  pub script_there : {b₁ : List ℕ} {r : Put} → GoodField s (field_head s) → is_empty (field_head s) ≡ false → BehindPut table s (keyword_of w) at b b₁ r →
      ScriptPut table s (keyword_of w) at b b₁ r
  script_there good e f =
      puts_as (script_tokens (keyword_of w) s) f
      (λ ns. script_behind (keyword_of w) (derived_field s any_class ns) (λ no. false≢true (sym e ∙ there_some ns s (field_head s) good no)))
      (omega arith) (omega arith)

-- ---- the fields of an item

module _ (table s : List ℕ) (first at : ℕ) where
  abbrev x : List ℕ
  x = drop first s

  abbrev y : List ℕ
  y = drop (field_end s first) s

  abbrev z : List ℕ
  z = drop (field_end s (field_end s first)) s

  abbrev both_scripts : Token → Token → List Name → Option (List Token)
  both_scripts lower upper ns = joined (script_tokens lower z ns) (script_tokens upper y ns)

  module _ (lower upper : Token) (asked : Asked) {b b₁ : List ℕ} where
    pub scripted_nucleus : FieldPut table x asked at b b₁ None → ScriptedPut table s first lower upper asked at b b₁ None
    scripted_nucleus f = fail_puts (both_scripts lower upper) f

    module _ {e : ℕ} (f : FieldPut table x asked at b b₁ (Some e)) where
      nucleus : (at + 1 ≤ e) × (e ≤ at + 16 * front_bytes x - 8)
      nucleus = f.ends

      pub scripted_below : {b₂ : List ℕ} → ScriptPut table z lower e b₁ b₂ None → ScriptedPut table s first lower upper asked at b b₂ None
      scripted_below {b₂} g =
          let behind : Puts table (both_scripts lower upper) (at + 1) 0 e b₁ b₂ None = fail_puts (script_tokens upper y) g in
          then_puts (both_scripts lower upper) (omega (arith, nucleus)) f behind (omega arith) (omega arith)

      pub scripted_done : {e₂ : ℕ} {b₂ b₃ : List ℕ} {r : Put} → ScriptPut table z lower e b₁ b₂ (Some e₂) → ScriptPut table y upper e₂ b₂ b₃ r →
          ScriptedPut table s first lower upper asked at b b₃ r
      scripted_done {e₂} {b₃ = b₃} {r = r} g h =
          let before = nucleus in
          let below : (e ≤ e₂) × (e₂ ≤ e + 16 * front_bytes z) = g.ends in
          let behind : Puts table (both_scripts lower upper) e₂ (e₂ + 16 * front_bytes y) e b₁ b₃ r =
          then_puts (script_tokens upper y) (omega arith) g h (omega arith) (omega arith) in
          then_puts (both_scripts lower upper) (omega arith) f behind (omega arith) (omega arith)

  module _ {b b₁ : List ℕ} where
    pub fraction_above : FieldPut table x any_class at b b₁ None → FractionPut table s first at b b₁ None
    fraction_above f = fail_puts (behind_tokens (keyword Over) y) f

    pub fraction_done : {e : ℕ} {b₂ : List ℕ} {r : Put} → FieldPut table x any_class at b b₁ (Some e) → BehindPut table y (keyword Over) e b₁ b₂ r →
        FractionPut table s first at b b₂ r
    fraction_done {e} f g =
        let above : (at + 1 ≤ e) × (e ≤ at + 16 * front_bytes x - 8) = f.ends in
        then_puts (behind_tokens (keyword Over) y) (omega arith) f g (omega arith) (omega arith)

-- ---- a field by its head

module _ (s : List ℕ) where
  field_as : {h : FieldHead} (asked : Asked) (ns : List Name) → field_head s ≡ h → field_tokens s asked ns ≡ of_operand (operand_of ns (field_of s h) asked)
  field_as asked ns is = ap (λ (k : FieldHead). of_operand (operand_of ns (field_of s k) asked)) is

  list_as : {o n : ℕ} (asked : Asked) (ns : List Name) → field_head s ≡ Sublist o n →
      field_tokens s asked ns ≡ of_operand (group_for asked (row_of ns (tree_of (contents o n s))))
  unfolding operand_of
  list_as asked ns is = field_as asked ns is

pub field_other : (s : List ℕ) (h : FieldHead) → ((x y : ℕ) → h ≡ Symbol x y → ⊥) → ((x y : ℕ) → h ≡ Sublist x y → ⊥) → field_of s h ≡ empty
field_other s NoField symbol list = refl
field_other s Empty symbol list = refl
field_other s (Symbol family code) symbol list = absurd (symbol family code refl)
field_other s (Sublist at n) symbol list = absurd (list at n refl)
field_other s CutSublist symbol list = refl

module _ (table s : List ℕ) (at : ℕ) (b : List ℕ) where
  pub field_empty : {h : FieldHead} (asked : Asked) → field_head s ≡ h → field_of s h ≡ empty → FieldPut table s asked at b b None
  unfolding operand_of
  field_empty asked is e =
      record { ends = tt; text = λ ns rs. record { none_are = field_as s asked ns is ∙ rw e; as_long = refl } }

  pub field_barred : {o n : ℕ} (class : CodeOption ℕ) → field_head s ≡ Sublist o n → takes_group class ≡ false →
      FieldPut table s (asked_as class) at b b None
  field_barred {o} {n} class is other =
      record {
        ends = tt;
        text =
            λ ns rs.
            record {
              none_are = list_as s (asked_as class) ns is ∙ ap of_operand (group_barred (row_of ns (tree_of (contents o n s))) class other);
              as_long = refl;
            };
      }

  module _ {b₁ : List ℕ} {r : Put} where
    pub field_symbol : {family code : ℕ} (asked : Asked) → field_head s ≡ Symbol family code → NamePut table family code asked at b b₁ r →
        FieldPut table s asked at b b₁ r
    unfolding operand_of
    field_symbol asked is f =
        let size : front_bytes s ≡ 3 = ap head_bytes is in
        puts_as (field_tokens s asked) f (λ ns. field_as s asked ns is) (omega arith) (omega arith)

    pub field_list : {o n : ℕ} (class : CodeOption ℕ) → field_head s ≡ Sublist o n → takes_group class ≡ true → length (contents o n s) ≡ n →
        GroupPut table (contents o n s) at b b₁ r → FieldPut table s (asked_as class) at b b₁ r
    field_list {o} {n} class is asked long f =
        let size : front_bytes s ≡ o + n = ap head_bytes is in
        let opens = list_opening_lem s o n is in
        let three = opening_some n in
        puts_as (field_tokens s (asked_as class)) f
        (λ ns. list_as s (asked_as class) ns is ∙ ap of_operand (group_asked (row_of ns (tree_of (contents o n s))) class asked)) (omega arith) (omega arith)

-- ---- a list in braces

group_tokens : (o : Option Row) → of_operand (as_group o) ≡ joined (some (opening ∷ [])) (joined (tokens_of_row o) (some (closing ∷ [])))
unfolding primary_tokens
group_tokens none = refl
group_tokens (some r) = refl

module _ (table s : List ℕ) (at inside : ℕ) (b b₁ : List ℕ) (opens : inside ≡ at + length (token_text at (123 ∷ [])))
    (first : b₁ ≡ sets b at (token_text at (123 ∷ []))) where
  brace_size : at + 1 ≤ inside
  brace_size = omega (arith, text_size at (123 ∷ []))

  brace_put : Texted (some (opening ∷ [])) at inside b b₁
  unfolding token_bytes
  brace_put = token_put opening refl opens first

  pub group_textless : {b₂ : List ℕ} → ListPut table s inside b₁ b₂ None → GroupPut table s at b b₂ None
  group_textless {b₂} f =
      record {
        ends = tt;
        text =
            λ ns rs.
            let o = row_of ns (tree_of s) in
            subst (λ (q : Option (List Token)). TextPut q at b b₂ None) (sym (group_tokens o))
            (put_then (joined (tokens_of_row o) (some (closing ∷ []))) b₂ None (omega (arith, brace_size)) brace_put
            (put_none (some (closing ∷ [])) (f ns rs)));
      }

  module _ (has : HasNames table) (b₂ : List ℕ) {behind : ℕ} (f : ListPut table s inside b₁ b₂ (Some behind)) (within : behind ≤ inside + 16 * length s) where
    pub list_size_lem : (at + 1 ≤ behind) × (behind ≤ at + 16 * length s + 2)
    list_size_lem =
        let before = text_size at (123 ∷ []) in
        (omega (arith, (f has.0 has.1).ends, brace_size), omega arith)

    pub group_done : {e : ℕ} {b₃ : List ℕ} → e ≡ behind + length (token_text behind (125 ∷ [])) → b₃ ≡ sets b₂ behind (token_text behind (125 ∷ [])) →
        GroupPut table s at b b₃ (Some e)
    unfolding token_bytes
    group_done {e} {b₃} closes last =
        let sizes = list_size_lem in
        let after = text_size behind (125 ∷ []) in
        record {
          ends = (omega arith, omega arith);
          text =
              λ ns rs.
              let o = row_of ns (tree_of s) in
              let closed = put_then (some (closing ∷ [])) b₃ (Some e) (omega arith) (f ns rs) (token_put closing refl closes last) in
              subst (λ (q : Option (List Token)). TextPut q at b b₃ (Some e)) (sym (group_tokens o))
              (put_then (joined (tokens_of_row o) (some (closing ∷ []))) b₃ (Some e) (omega (arith, brace_size)) brace_put closed);
        }
