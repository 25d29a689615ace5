-- A word or a group, a script and an operand: what is promised of them follows from what is promised of what they hold. There is a law for
-- where all has been written (`-done`) and for each place where a part was too large (`-stop`, `-deep`); each says too that the place
-- reached lies onward.
--     word_class, group_class        the class of a word, and of a group
--     word_put                       a word as a field
--     GroupPut, group_deep, group_stop, group_done     a group as a field
--     script_none, script_some       a script or a limit
--     ListPut, operand_bare, operand_deep, operand_stop, operand_done     an operand
-- Assumes nothing.
use Rattle.std.specs.Prelude.{Option, Some, None}
use mathlib.Core.Path.{◌≡◌, refl, sym, ap, ◌∙◌}
use mathlib.Core.Bool.{true, false}
use mathlib.Core.List.{List, [], ◌∷◌, ◌++◌}
use Prim.Native.Nat.{ℕ, ◌+◌, ◌-◌, ◌<◌}
use native.Mathlib.Omega.{arith}
use lib.ListN.{length, take, drop}
use lib.Seq.{sets}
use Rattle.eqn_tokens.specs.Tokens.{Token, word, opening, closing, tokens_in}
use Rattle.eqn_tokens.specs.BytesLaws.{rest_lent}
use Rattle.eqn_names.specs.declared.NameIndex.{NameIndex}
use Rattle.eqn_names.specs.Names.{Name, named, is_word}
use Rattle.eqn_names.specs.Firsts.{Listed}
use Rattle.eqn_tokens.specs.declared.tokens.TokenKind.TheVariants.{Word}
use Rattle.eqn_tokens.specs.declared.tokens.Token as code
use Rattle.eqn_tokens.specs.Values.{TokenAt}
use Rattle.eqn_tokens.specs.PlacesLaws.{nil_cons, bytes_of}
use Rattle.eqn_names.specs.declared.Symbol.{Symbol}
use Rattle.eqn_names.specs.Values.{found_as}
use Rattle.formula.specs.Tree.{nil, cons, list}
use Rattle.formula_spelling.specs.Spelling.{spelling, field_spelling}
use Rattle.eqn_grammar.specs.Grammar as grammar
use Rattle.eqn_grammar.specs.Grammar.{Row, no_overs, some_overs, Overs, braced, row_tokens, overs_tokens, primary_tokens}
use Rattle.eqn_grammar.specs.Parsing.{bare}
use Rattle.eqn_meaning.specs.Meaning.{in_list, row_items, limit_field, overs_operand, primary_nucleus, items_within, field_within}
use Rattle.eqn_cuts.specs.Values.{LastStarts}
use Rattle.eqn_cuts.specs.CutLaws.{none_behind}
use Rattle.eqn_stores.specs.Values.{Ends, ListClosed}
use Rattle.eqn_read.specs.Values.{is_bare, Onward, found_family, found_code, Wrote, RowMade, OverMade, OperandMade, ScriptMade, PrimaryMade, ClassFound}
use Rattle.eqn_read.proofs.WroteLaws.{goes, ends_onward, onward_stop, closed_onward, ends_wrote, list_deep, list_stop, list_wrote, alone}
use Rattle.eqn_read.proofs.MeantLaws.{NotEmpty, overs_some, field_bare, field_listed}
use Rattle.eqn_read.proofs.WordLaws.{first_token, word_kind, found_class, found_class_lem, found_name}

pub no_tokens : {ts : List Token} → NotEmpty ts → ts ≡ [] → ⊥
no_tokens (t, us, is) none = nil_cons (sym none ∙ is)

-- ---- a word or a group

module _ (index : NameIndex) {s : List ℕ} {t : code.Token} (first : TokenAt s 0 t) where
  word_bytes : (v : List ℕ) → t.kind ≡ Word → word v ∷ [] ≡ tokens_in s → bytes_of s t ≡ v
  word_bytes v is tokens =
      let same = (first_token first tokens).0 in
      let head : word (bytes_of s t) ≡ word v = rw is at same in
      cc

  group_no_word : (r : Row) → t.kind ≡ Word → primary_tokens (braced r) ≡ tokens_in s → ⊥
  unfolding primary_tokens
  group_no_word r is tokens =
      let same = (first_token first tokens).0 in
      let head : word (bytes_of s t) ≡ opening = rw is at same in
      let never : ◌≡◌ {A = ℕ} 0 1 = cc in
      omega arith

  word_no_group : (v : List ℕ) → (t.kind ≡ Word → ⊥) → word v ∷ [] ≡ tokens_in s → ⊥
  word_no_group v other tokens = other (word_kind t.kind (bytes_of s t) (ap is_word (first_token first tokens).0))

  abbrev SymbolOf : Option Symbol → Type 0
  SymbolOf found = (ns : List Name) → Listed index.names.now index.firsts.now ns → found_as (bytes_of s t) found ≡ named ns (bytes_of s t)

  pub word_class : (found : Option Symbol) → t.kind ≡ Word → SymbolOf found → ClassFound index s (found_class found)
  unfolding primary_nucleus primary_tokens
  word_class found is sought ns records (grammar.named v) tokens =
      rw (← word_bytes v is tokens) (found_class_lem records.records (bytes_of s t) found (sought ns records))
  word_class found is sought ns records (braced r) tokens = absurd (group_no_word r is tokens)

  pub group_class : (t.kind ≡ Word → ⊥) → ClassFound index s 0
  unfolding primary_nucleus primary_tokens
  group_class other ns records (grammar.named v) tokens = absurd (word_no_group v other tokens)
  group_class other ns records (braced r) tokens = refl

  module _ (levels at : ℕ) (o o₁ : List ℕ) where
    word_primary : (found : Option Symbol) (r : Option ℕ) → t.kind ≡ Word → SymbolOf found → Ends (at + 3) r →
        o₁ ≡ sets o at (1 ∷ found_family found ∷ found_code found ∷ []) → PrimaryMade index s levels at o o₁ r
    unfolding primary_nucleus primary_tokens field_within field_spelling
    word_primary found r is sought ends stored ns records (grammar.named v) tokens =
        let name = found_name ns (bytes_of s t) found (sought ns records) in
        ends_wrote _ at o r ends (stored ∙ rw (← word_bytes v is tokens, name.0, name.1))
    word_primary found r is sought ends stored ns records (braced row) tokens = absurd (group_no_word row is tokens)

    pub word_put : (found : Option Symbol) (r : Option ℕ) → t.kind ≡ Word → SymbolOf found →
        Ends (at + 3) r × (o₁ ≡ sets o at (1 ∷ found_family found ∷ found_code found ∷ [])) → Onward at r × PrimaryMade index s levels at o o₁ r
    word_put found r is sought put = (ends_onward at (at + 3) r (omega arith) put.0, word_primary found r is sought put.0 put.1)

    -- the list of a row
    abbrev Grouped : Option ℕ → Type 0
    Grouped q =
        (ns : List Name) → Listed index.names.now index.firsts.now ns → (r : Row) → tokens_in (drop t.end s) ≡ row_tokens r ++ closing ∷ [] →
        Wrote (field_within (list (row_items ns r)) levels) (field_spelling (list (row_items ns r))) at o o₁ q

    grouped : (q : Option ℕ) → (t.kind ≡ Word → ⊥) → Grouped q → PrimaryMade index s levels at o o₁ q
    unfolding primary_nucleus primary_tokens
    grouped q other group ns records (grammar.named v) tokens = absurd (word_no_group v other tokens)
    grouped q other group ns records (braced r) tokens = group ns records r (first_token first tokens).1

  pub group_deep : (levels at : ℕ) (o : List ℕ) → (t.kind ≡ Word → ⊥) → levels ≡ 0 →
      Onward at None × PrimaryMade index s levels at o o None
  group_deep levels at o other none =
      (tt, grouped levels at o o None other (λ ns records r tokens. list_deep (row_items ns r) levels at o o none))

-- the row's slice ends before the last token of what stands behind the first
pub record GroupPut (index : NameIndex) (s : List ℕ) (levels at : ℕ) (o : List ℕ) (t : code.Token) (last : ℕ) (q : Option ℕ) (o₁ : List ℕ) : Type 0 where
  pub first : TokenAt s 0 t
  pub other : t.kind ≡ Word → ⊥
  pub some : 0 < levels
  pub ends : LastStarts (take (length s - t.end) (drop t.end s)) last
  pub row : Onward (at + 3) q × RowMade index (take (t.end + last - t.end) (drop t.end s)) (levels - 1) (at + 3) o o₁ q

module _ {index : NameIndex} {s : List ℕ} {levels at : ℕ} {o : List ℕ} {t : code.Token} {last : ℕ} {q : Option ℕ} {o₁ : List ℕ} (g : GroupPut index s levels at o t last q o₁) where
  inside : (ns : List Name) → Listed index.names.now index.firsts.now ns → (r : Row) → tokens_in (drop t.end s) ≡ row_tokens r ++ closing ∷ [] →
      Wrote (items_within (row_items ns r) (levels - 1)) (spelling (row_items ns r)) (at + 3) o o₁ q
  inside ns records r tokens =
      let behind : LastStarts (drop t.end s) last = rw rest_lent at g.ends in
      let size : t.end + last - t.end ≡ last = omega arith in
      g.row.1 ns records r (rw size (sym (behind.before closing (row_tokens r) tokens)))

  pub group_stop : q ≡ None → Onward at q × PrimaryMade index s levels at o o₁ q
  group_stop is = (
    onward_stop at is,
    grouped index g.first levels at o o₁ q g.other
        (λ ns records r tokens. list_stop (row_items ns r) levels at o o₁ g.some is (inside ns records r tokens)),
  )

  pub group_done : {e : ℕ} (o₂ : List ℕ) (r : Option ℕ) → q ≡ Some e → ListClosed o₁ at e o₂ r → Onward at r × PrimaryMade index s levels at o o₂ r
  group_done {e} o₂ r is closed = (
    closed_onward o₁ o₂ at e r (omega (arith, goes (at + 3) is g.row.0)) closed,
    grouped index g.first levels at o o₂ r g.other
        (λ ns records d tokens. list_wrote (row_items ns d) levels at o o₁ g.some o₂ r is (inside ns records d tokens) closed),
  )

-- ---- scripts and operands

module _ (index : NameIndex) (s : List ℕ) (levels at : ℕ) (o o₁ : List ℕ) (q : Option ℕ) where
  script_empty : length s ≡ 0 → Ends (at + 1) q → o₁ ≡ sets o at (0 ∷ []) → ScriptMade index s levels at o o₁ q
  unfolding limit_field field_within field_spelling
  script_empty size ends stored ns records no_overs stands = ends_wrote (0 ∷ []) at o q ends stored
  script_empty size ends stored ns records (some_overs d) stands =
      absurd (no_tokens (overs_some d) (stands ∙ none_behind s {at = 0} (omega arith)))

  script_there : (length s ≡ 0 → ⊥) → OperandMade index s levels at o o₁ q → ScriptMade index s levels at o o₁ q
  unfolding limit_field
  script_there size operand ns records no_overs stands = absurd (size stands)
  script_there size operand ns records (some_overs d) stands = operand ns records d stands

  pub script_none : length s ≡ 0 → Ends (at + 1) q × (o₁ ≡ sets o at (0 ∷ [])) → Onward at q × ScriptMade index s levels at o o₁ q
  script_none size put = (ends_onward at (at + 1) q (omega arith) put.0, script_empty size put.0 put.1)

  pub script_some : (length s ≡ 0 → ⊥) → Onward at q × OperandMade index s levels at o o₁ q → Onward at q × ScriptMade index s levels at o o₁ q
  script_some size operand = (operand.0, script_there size operand.1)

  pub operand_bare : is_bare (tokens_in s) ≡ true → Onward at q × PrimaryMade index s levels at o o₁ q →
      Onward at q × OperandMade index s levels at o o₁ q
  operand_bare bare primary = (
    primary.0,
    λ ns records d tokens.
        let b = field_bare ns d (rw tokens bare) in
        rw b.field (primary.1 ns records b.primary (b.tokens ∙ tokens)),
  )

  listed : is_bare (tokens_in s) ≡ false →
      ((ns : List Name) → Listed index.names.now index.firsts.now ns → (d : Overs) → overs_tokens d ≡ tokens_in s →
      let f = in_list (overs_operand ns d).item in Wrote (field_within f levels) (field_spelling f) at o o₁ q) →
      OperandMade index s levels at o o₁ q
  listed more all ns records d tokens = rw (field_listed ns d (rw tokens more)) (all ns records d tokens)

pub operand_deep : (index : NameIndex) (s : List ℕ) (levels at : ℕ) (o : List ℕ) → is_bare (tokens_in s) ≡ false → levels ≡ 0 →
    Onward at None × OperandMade index s levels at o o None
operand_deep index s levels at o more none =
    (tt, listed index s levels at o o None more (λ ns records d tokens. list_deep (cons (overs_operand ns d).item nil) levels at o o none))

-- the item of a list of one
pub record ListPut (index : NameIndex) (s : List ℕ) (levels at : ℕ) (o : List ℕ) (q : Option ℕ) (o₁ : List ℕ) : Type 0 where
  pub more : is_bare (tokens_in s) ≡ false
  pub some : 0 < levels
  pub over : Onward (at + 3) q × OverMade index s (levels - 1) (at + 3) o o₁ q

module _ {index : NameIndex} {s : List ℕ} {levels at : ℕ} {o : List ℕ} {q : Option ℕ} {o₁ : List ℕ} (p : ListPut index s levels at o q o₁) where
  one : (ns : List Name) → Listed index.names.now index.firsts.now ns → (d : Overs) → overs_tokens d ≡ tokens_in s →
      let l = cons (overs_operand ns d).item nil in Wrote (items_within l (levels - 1)) (spelling l) (at + 3) o o₁ q
  one ns records d tokens = alone (overs_operand ns d).item (levels - 1) (at + 3) o o₁ q (p.over.1 ns records d tokens)

  pub operand_stop : q ≡ None → Onward at q × OperandMade index s levels at o o₁ q
  operand_stop is = (
    onward_stop at is,
    listed index s levels at o o₁ q p.more
        (λ ns records d tokens. list_stop (cons (overs_operand ns d).item nil) levels at o o₁ p.some is (one ns records d tokens)),
  )

  pub operand_done : {e : ℕ} (o₂ : List ℕ) (r : Option ℕ) → q ≡ Some e → ListClosed o₁ at e o₂ r → Onward at r × OperandMade index s levels at o o₂ r
  operand_done {e} o₂ r is closed = (
    closed_onward o₁ o₂ at e r (omega (arith, goes (at + 3) is p.over.0)) closed,
    listed index s levels at o o₂ r p.more
        (λ ns records d tokens. list_wrote (cons (overs_operand ns d).item nil) levels at o o₁ p.some o₂ r is (one ns records d tokens) closed),
  )
