-- What a field says at its head, as the code finds it.
--     kind_empty ..           a field, by its kind byte; list_said, empty_said    that it is a list, or empty
--     ListKind, Sized         a list's kind, how many bytes of length it has, and the length that they hold
--     length_cut, long_short, list_in_lem, list_cut     a list field, by these
-- Assumes nothing.
use mathlib.Core.Path.{◌≡◌, refl, sym, ap, ap₂, ◌∙◌}
use mathlib.Core.Logic.{◌⊎◌, inl, inr}
use mathlib.Core.Bool.{Bool, true, false, ◌&&◌, ◌||◌}
use mathlib.Core.List.{List, [], ◌∷◌}
use Prim.Native.Nat.{ℕ, zero, suc, ◌+◌, ◌-◌, ◌*◌, ◌≤◌, ◌<◌}
use native.Mathlib.Omega.{arith}
use lib.Dec.{leb, eqb}
use lib.ListN.{length, take, drop, get_or, length-drop}
use borrow.Author.Tests.{le-leb, lt-leb, eq-eqb, ne_eqb}
use Rattle.words.specs.Words.{little_endian}
use Rattle.formula.specs.declared.FieldHead.{FieldHead}
use Rattle.formula.specs.declared.FieldHead.TheVariants.{NoField, Empty, Symbol, Sublist, CutSublist}
use Rattle.formula.specs.Tree.{greatest_short, short_opening_bytes, long_opening_bytes, list_opening_bytes}
use Rattle.formula.specs.Heads.{greatest_family, symbol_head, sublist_head, list_head, long_list_head, field_head_under, field_head, is_empty, is_list}
use Rattle.formula.specs.Slices.{tail_part}
use Rattle.formula.specs.HeadLaws.{opening_short, opening_long}
use Rattle.formula.specs.FirstBytes.{one, two, short_two, short_four}

-- what a test says of every field of a kind
module _ (test : FieldHead → Bool) (answer : Bool) where
  symbols_alike : test NoField ≡ answer → ((family code : ℕ) → test (Symbol family code) ≡ answer) → (s : List ℕ) →
      test (symbol_head s) ≡ answer
  unfolding symbol_head
  symbols_alike none_there is [] = none_there
  symbols_alike none_there is (family ∷ []) = none_there
  symbols_alike none_there is (family ∷ code ∷ s) = go (leb family greatest_family)
    where
      go : (t : Bool) → test (elim t [ true ↦ Symbol family code | false ↦ NoField ]) ≡ answer
      go true = is family code
      go false = none_there

  module _ (cut : test CutSublist ≡ answer) (is : (opening n : ℕ) → test (Sublist opening n) ≡ answer) where
    sublists_alike : (opening n : ℕ) (s : List ℕ) → test (sublist_head opening n s) ≡ answer
    unfolding sublist_head
    sublists_alike opening n s = go (eqb opening (list_opening_bytes n) && leb n (length s))
      where
        go : (t : Bool) → test (elim t [ true ↦ Sublist opening n | false ↦ CutSublist ]) ≡ answer
        go true = is opening n
        go false = cut

    lists_alike : (s : List ℕ) → test (list_head s) ≡ answer
    unfolding list_head
    lists_alike [] = cut
    lists_alike (a ∷ []) = cut
    lists_alike (a ∷ b ∷ s) = sublists_alike short_opening_bytes (little_endian 2 (a ∷ b ∷ [])) s

    long_lists_alike : (s : List ℕ) → test (long_list_head s) ≡ answer
    unfolding long_list_head
    long_lists_alike [] = cut
    long_lists_alike (a ∷ []) = cut
    long_lists_alike (a ∷ b ∷ []) = cut
    long_lists_alike (a ∷ b ∷ c ∷ []) = cut
    long_lists_alike (a ∷ b ∷ c ∷ d ∷ s) = sublists_alike long_opening_bytes (little_endian 4 (a ∷ b ∷ c ∷ d ∷ [])) s

pub past_kinds : (n : ℕ) (s : List ℕ) → 3 < n → field_head (n ∷ s) ≡ NoField
unfolding field_head_under
past_kinds n s h =
    simp (field_head_under, ne_eqb n 0 (λ e. omega arith), ne_eqb n 1 (λ e. omega arith), ne_eqb n 2 (λ e. omega arith), ne_eqb n 3 (λ e. omega arith))

list_by_kind : (kind : ℕ) (s : List ℕ) → is_list (field_head (kind ∷ s)) ≡ (eqb kind 2 || eqb kind 3)
unfolding field_head_under
list_by_kind zero s = refl
list_by_kind (suc zero) s = symbols_alike is_list false refl (λ f c. refl) s
list_by_kind (suc (suc zero)) s = lists_alike is_list true refl (λ o n. refl) s
list_by_kind (suc (suc (suc zero))) s = long_lists_alike is_list true refl (λ o n. refl) s
list_by_kind (suc (suc (suc (suc k)))) s =
    let n = suc (suc (suc (suc k))) in
    ap is_list (past_kinds n s (omega arith)) ∙ sym (ap₂ ◌||◌ (ne_eqb n 2 (λ e. omega arith)) (ne_eqb n 3 (λ e. omega arith)))

empty_by_kind : (kind : ℕ) (s : List ℕ) → is_empty (field_head (kind ∷ s)) ≡ eqb kind 0
unfolding field_head_under
empty_by_kind zero s = refl
empty_by_kind (suc zero) s = symbols_alike is_empty false refl (λ f c. refl) s
empty_by_kind (suc (suc zero)) s = lists_alike is_empty false refl (λ o n. refl) s
empty_by_kind (suc (suc (suc zero))) s = long_lists_alike is_empty false refl (λ o n. refl) s
empty_by_kind (suc (suc (suc (suc k)))) s =
    let n = suc (suc (suc (suc k))) in ap is_empty (past_kinds n s (omega arith)) ∙ sym (ne_eqb n 0 (λ e. omega arith))

module _ (s : List ℕ) (some : 0 < length s) where
  kind_is : (kind : ℕ) → get_or s 0 0 ≡ kind → field_head s ≡ field_head (kind ∷ drop 1 s)
  kind_is kind e = ap field_head (one s some) ∙ ap (λ (k : ℕ). field_head (k ∷ drop 1 s)) e

  pub kind_empty : get_or s 0 0 ≡ 0 → field_head s ≡ Empty
  unfolding field_head_under
  kind_empty e = kind_is 0 e

  pub kind_symbol : get_or s 0 0 ≡ 1 → field_head s ≡ symbol_head (take (length s - 1) (drop 1 s))
  unfolding field_head_under
  kind_symbol e = kind_is 1 e ∙ ap symbol_head (sym (tail_part s 1))

  -- any other
  pub kind_other : field_head s ≡ field_head (get_or s 0 0 ∷ take (length s - 1) (drop 1 s))
  kind_other = ap field_head (one s some) ∙ ap (λ (r : List ℕ). field_head (get_or s 0 0 ∷ r)) (sym (tail_part s 1))

  pub list_said : is_list (field_head s) ≡ (eqb (get_or s 0 0) 2 || eqb (get_or s 0 0) 3)
  list_said = ap (λ (s : List ℕ). is_list (field_head s)) (one s some) ∙ list_by_kind (get_or s 0 0) (drop 1 s)

  pub empty_said : is_empty (field_head s) ≡ eqb (get_or s 0 0) 0
  empty_said = ap (λ (s : List ℕ). is_empty (field_head s)) (one s some) ∙ empty_by_kind (get_or s 0 0) (drop 1 s)

-- a list field by its length; s stands behind the opening
module _ (opening n : ℕ) (s : List ℕ) where
  sublist_by : (own fits : Bool) → eqb opening (list_opening_bytes n) ≡ own → leb n (length s) ≡ fits →
      sublist_head opening n s ≡ elim (own && fits) [ true ↦ Sublist opening n | false ↦ CutSublist ]
  unfolding sublist_head
  sublist_by own fits e f = ap₂ (λ (a b : Bool). elim (a && b) [ true ↦ Sublist opening n | false ↦ CutSublist ]) e f

  sublist_in : list_opening_bytes n ≡ opening → n ≤ length s → sublist_head opening n s ≡ Sublist opening n
  sublist_in own h = sublist_by true true (eq-eqb opening (list_opening_bytes n) (sym own)) (le-leb n (length s) h)

  sublist_other : (opening ≡ list_opening_bytes n → ⊥) → sublist_head opening n s ≡ CutSublist
  sublist_other other = sublist_by false (leb n (length s)) (ne_eqb opening (list_opening_bytes n) other) refl

  sublist_cut : length s < n → sublist_head opening n s ≡ CutSublist
  sublist_cut h = sublist_by own false refl (lt-leb n (length s) h) ∙ go own
    where
      own : Bool
      own = eqb opening (list_opening_bytes n)

      go : (own : Bool) → ◌≡◌ {A = FieldHead} (elim (own && false) [ true ↦ Sublist opening n | false ↦ CutSublist ]) CutSublist
      go true = refl
      go false = refl

short_list : (s : List ℕ) (n : ℕ) → 2 ≤ length s → n ≡ get_or s 0 0 + 256 * get_or s 1 0 →
    field_head (2 ∷ s) ≡ sublist_head short_opening_bytes n (drop 2 s)
unfolding field_head_under list_head little_endian
short_list s n long is = ap list_head (two s long) ∙ ap (λ (n : ℕ). sublist_head short_opening_bytes n (drop 2 s)) (omega arith)

long_list_lem : (s : List ℕ) (n : ℕ) → 4 ≤ length s → n ≡ little_endian 4 s →
    field_head (3 ∷ s) ≡ sublist_head long_opening_bytes n (drop 4 s)
unfolding field_head_under long_list_head little_endian
long_list_lem [] n l e = absurd (omega arith)
long_list_lem (a ∷ []) n l e = absurd (omega arith)
long_list_lem (a ∷ b ∷ []) n l e = absurd (omega arith)
long_list_lem (a ∷ b ∷ c ∷ []) n l e = absurd (omega arith)
long_list_lem (a ∷ b ∷ c ∷ d ∷ r) n l e = ap (λ (n : ℕ). sublist_head long_opening_bytes n r) (sym e)

-- a list's kind, and how many bytes of length it has
abbrev pub ListKind : ℕ → ℕ → Type 0
ListKind kind bytes = ((kind ≡ 2) × (bytes ≡ 2)) ⊎ ((kind ≡ 3) × (bytes ≡ 4))

pub list_kind_lem : (kind bytes : ℕ) → 1 < kind → kind ≤ 3 → (kind ≡ 3 → bytes ≡ 4) → ((kind ≡ 3 → ⊥) → bytes ≡ 2) → ListKind kind bytes
list_kind_lem zero bytes low high long short = absurd (omega arith)
list_kind_lem (suc zero) bytes low high long short = absurd (omega arith)
list_kind_lem (suc (suc zero)) bytes low high long short = inl (refl, short (λ e. omega arith))
list_kind_lem (suc (suc (suc zero))) bytes low high long short = inr (refl, long refl)
list_kind_lem (suc (suc (suc (suc k)))) bytes low high long short = absurd (omega arith)

-- and the length that they hold
abbrev pub Sized : ℕ → ℕ → List ℕ → ℕ → Type 0
Sized kind bytes s n =
    ((kind ≡ 2) × (bytes ≡ 2) × (n ≡ get_or s 0 0 + 256 * get_or s 1 0) × (n ≤ greatest_short))
    ⊎ ((kind ≡ 3) × (bytes ≡ 4) × (n ≡ little_endian 4 s) × (greatest_short < n))

module _ (kind : ℕ) (s : List ℕ) where
  of_kind : (k : ℕ) → kind ≡ k → field_head (kind ∷ s) ≡ field_head (k ∷ s)
  of_kind k e = ap (λ (k : ℕ). field_head (k ∷ s)) e

  pub length_cut : (bytes : ℕ) → ListKind kind bytes → length s < bytes → field_head (kind ∷ s) ≡ CutSublist
  unfolding field_head_under list_head long_list_head
  length_cut bytes (inl (is, two_bytes)) h =
      of_kind 2 is ∙ short_two (λ (s : List ℕ). field_head (2 ∷ s)) CutSublist refl (λ a. refl) s (omega arith)
  length_cut bytes (inr (is, four_bytes)) h =
      of_kind 3 is ∙ short_four (λ (s : List ℕ). field_head (3 ∷ s)) CutSublist refl (λ a. refl) (λ a b. refl) (λ a b c. refl) s (omega arith)

  pub long_short : (n : ℕ) → kind ≡ 3 → 4 ≤ length s → n ≡ little_endian 4 s → n ≤ greatest_short → field_head (kind ∷ s) ≡ CutSublist
  long_short n is h e short =
      of_kind 3 is ∙ long_list_lem s n h e ∙ sublist_other long_opening_bytes n (drop 4 s) (λ own. omega (arith, opening_short n short))

  module _ (bytes n : ℕ) (whole : bytes ≤ length s) where
    pub list_cut : Sized kind bytes s n → length s - bytes < n → field_head (kind ∷ s) ≡ CutSublist
    list_cut (inl (is, two_bytes, e, short)) h =
        of_kind 2 is ∙ short_list s n (omega arith) e ∙ sublist_cut short_opening_bytes n (drop 2 s) (omega (arith, length-drop 2 s))
    list_cut (inr (is, four_bytes, e, great)) h =
        of_kind 3 is ∙ long_list_lem s n (omega arith) e ∙ sublist_cut long_opening_bytes n (drop 4 s) (omega (arith, length-drop 4 s))

    pub list_in_lem : Sized kind bytes s n → n ≤ length s - bytes → field_head (kind ∷ s) ≡ Sublist (1 + bytes) n
    list_in_lem (inl (is, two_bytes, e, short)) h =
        let opening : short_opening_bytes ≡ 1 + bytes = omega arith in
        of_kind 2 is ∙ short_list s n (omega arith) e
        ∙ sublist_in short_opening_bytes n (drop 2 s) (opening_short n short) (omega (arith, length-drop 2 s))
        ∙ ap (λ (o : ℕ). Sublist o n) opening
    list_in_lem (inr (is, four_bytes, e, great)) h =
        let opening : long_opening_bytes ≡ 1 + bytes = omega arith in
        of_kind 3 is ∙ long_list_lem s n (omega arith) e
        ∙ sublist_in long_opening_bytes n (drop 4 s) (opening_long n great) (omega (arith, length-drop 4 s))
        ∙ ap (λ (o : ℕ). Sublist o n) opening
