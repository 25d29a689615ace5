-- What a reading gives lies within the bytes that it read: a fault's place, and the end of each part. With it goes whatever is to hold
-- of the parts by the bytes that they are written in.
--     ReadClaims       what is to hold: of a list and of an item of n bytes, and of a field from one place of its item to another
--     Closed           that it holds of the least parts, and of a part where it holds of its parts
--     ReadIn, GotIn    of what was read, or it is a fault within the bytes
--     field_in_lem, item_in, read_in     then it holds of whatever is read
-- Assumes nothing.
use Rattle.std.specs.Prelude.{◌≡◌, Bool, ℤ, drop}
use Rattle.std.proofs.Math.Path.{refl, subst}
use Rattle.std.proofs.Common.{sym}
use Rattle.std.proofs.Math.Bool.{true, false}
use mathlib.Core.List.{List, [], ◌∷◌}
use Prim.Native.Nat.{ℕ, zero, suc, ◌+◌, ◌≤◌}
use native.Mathlib.Omega.{arith}
use Rattle.std.proofs.Math.ListN.{length, length-drop}
use Rattle.formula.specs.declared.Base.{Base}
use Rattle.formula.specs.declared.Bar.{Bar}
use Rattle.formula.specs.declared.Kind.{Kind}
use Rattle.formula.specs.declared.Kind.TheVariants.{Scripted, Fraction}
use Rattle.formula.specs.declared.Opening.{Opening}
use Rattle.formula.specs.declared.Opening.TheVariants.{NoItem, Fields, Kern, Restyle, Choice}
use Rattle.formula.specs.declared.FieldHead.{FieldHead}
use Rattle.formula.specs.declared.FieldHead.TheVariants.{NoField, Empty, Symbol, Sublist, CutSublist}
use Rattle.formula.specs.Format.{long_format}
use Rattle.formula.specs.Tree.{Items, Item, Field, nil, cons, noad, kern, restyle, choice, empty, symbol, list, opening_bytes, holds_list, kern_bytes, restyle_bytes, choice_opening_bytes, symbol_bytes, list_opening_bytes}
use Rattle.formula.specs.Heads.{opening_of, field_head}
use Rattle.formula.specs.Reading.{Read, good, fault, Got, got, stopped, ◌then_at◌, list_got, field_by, only_list, held_in, field_at, first_at, third_at, noad_at, list_at, choice_at, opened_by, item_by, before, rest_by, list_by, read_by, read_under, read}
use Rattle.formula.specs.Places.{contents, opened_bytes}
use Rattle.formula.specs.HeadLaws.{head_fits, list_opening_lem, contents_shorter, opening_fits}

pub record ReadClaims : Type 1 where
  pub OfItems : ℕ → Items → Type 0
  pub OfItem : ℕ → Item → Type 0
  pub OfField : ℕ → ℕ → Field → Type 0
  pub OfThird : Kind → ℕ → ℕ → Field → Type 0

pub record Closed (p : ReadClaims) : Type 0 where
  pub empty_is : (at : ℕ) → p.OfField at (at + 1) empty
  pub symbol_is : (at family code : ℕ) → p.OfField at (at + symbol_bytes) (symbol family code)
  pub list_is : (at n : ℕ) (l : Items) → p.OfItems n l → p.OfField at (at + list_opening_bytes n + n) (list l)
  pub third_is : (base : Base) (at end : ℕ) (f : Field) → p.OfField at end f → p.OfThird (Scripted base) at end f
  pub no_third : (bar : Bar) (at : ℕ) → p.OfThird (Fraction bar) at at empty
  pub noad_is : (kind : Kind) (x y z : Field) (m₁ m₂ m₃ : ℕ) → p.OfField (opening_bytes kind) m₁ x → p.OfField m₁ m₂ y →
      p.OfThird kind m₂ m₃ z → p.OfItem m₃ (noad kind x y z)
  pub kern_is : (n : ℤ) → p.OfItem kern_bytes (kern n)
  pub restyle_is : (n : ℕ) → p.OfItem restyle_bytes (restyle n)
  pub choice_is : (d t sc ss : Items) (m₁ m₂ m₃ m₄ : ℕ) → p.OfField choice_opening_bytes m₁ (list d) → p.OfField m₁ m₂ (list t) →
      p.OfField m₂ m₃ (list sc) → p.OfField m₃ m₄ (list ss) → p.OfItem m₄ (choice d t sc ss)
  pub nil_is : p.OfItems 0 nil
  pub cons_is : (size n : ℕ) (i : Item) (l : Items) → p.OfItem size i → p.OfItems n l → p.OfItems (size + n) (cons i l)

abbrev pub ReadIn : ReadClaims → ℕ → Read → Type 0
ReadIn p n (good l) = p.OfItems n l
ReadIn p n (fault why place) = place ≤ n

abbrev pub GotIn : {A : Type 0} → (A → ℕ → Type 0) → ℕ → Got A → Type 0
GotIn P hi (got a m) = P a m × (m ≤ hi)
GotIn P hi (stopped why place) = place ≤ hi

then_in : {A B : Type 0} (P : A → ℕ → Type 0) (Q : B → ℕ → Type 0) (hi : ℕ) (g : Got A) (k : A → ℕ → Got B) → GotIn P hi g →
    ((a : A) (m : ℕ) → P a m → m ≤ hi → GotIn Q hi (k a m)) → GotIn Q hi (g then_at k)
then_in P Q hi (got a m) k h f = f a m h.0 h.1
then_in P Q hi (stopped why place) k h f = h

module _ (p : ReadClaims) (rules : Closed p) where
  abbrev pub FieldFrom : ℕ → Field → ℕ → Type 0
  FieldFrom at f end = p.OfField at end f

  abbrev ListFrom : ℕ → Items → ℕ → Type 0
  ListFrom at l end = p.OfField at end (list l)

  abbrev ThirdFrom : Kind → ℕ → Field → ℕ → Type 0
  ThirdFrom kind at f end = p.OfThird kind at end f

  abbrev pub ItemTo : Item → ℕ → Type 0
  ItemTo i end = p.OfItem end i

  -- R reads shorter lists
  module _ (R : ℕ → List ℕ → Read) (ih : (levels : ℕ) (r : List ℕ) → ReadIn p (length r) (R levels r)) (levels : ℕ) where
    -- ---- a field

    pub field_by_in : (s : List ℕ) (at : ℕ) → at ≤ length s → GotIn (FieldFrom at) (length s) (field_at long_format R levels s at)
    unfolding field_at field_by list_got
    field_by_in s at l = go levels (field_head (drop at s)) refl
      where
        inside : (opening n : ℕ) (x : Read) → opening ≡ list_opening_bytes n → at + (opening + n) ≤ length s → ReadIn p n x →
            GotIn (FieldFrom at) (length s) (list_got at opening n x)
        inside opening n (good l) opens h q =
            (subst (λ (k : ℕ). FieldFrom at (list l) (at + k + n)) (sym opens) (rules.list_is at n l q), omega arith)
        inside opening n (fault why place) opens h q = omega arith

        go : (levels : ℕ) (h : FieldHead) → field_head (drop at s) ≡ h →
            GotIn (FieldFrom at) (length s) (field_by R levels at (drop at s) h)
        go levels NoField e = omega arith
        go levels Empty e = (rules.empty_is at, omega (arith, length-drop at s, head_fits (drop at s) Empty e))
        go levels (Symbol family code) e =
            (rules.symbol_is at family code, omega (arith, length-drop at s, head_fits (drop at s) (Symbol family code) e))
        go zero (Sublist opening n) e = l
        go (suc levels) (Sublist opening n) e =
            let r = contents opening n (drop at s) in
            inside opening n (R levels r) (list_opening_lem (drop at s) opening n e)
            (omega (arith, length-drop at s, head_fits (drop at s) (Sublist opening n) e))
            (subst (λ (k : ℕ). ReadIn p k (R levels r)) (contents_shorter (drop at s) opening n e).0 (ih levels r))
        go zero CutSublist e = l
        go (suc levels) CutSublist e = omega arith

    third_in_lem : (s : List ℕ) (kind : Kind) (at : ℕ) → at ≤ length s → GotIn (ThirdFrom kind at) (length s) (third_at long_format R levels s kind at)
    unfolding third_at
    third_in_lem s (Scripted base) at l = some (field_at long_format R levels s at) (field_by_in s at l)
      where
        some : (g : Got Field) → GotIn (FieldFrom at) (length s) g → GotIn (ThirdFrom (Scripted base) at) (length s) g
        some (got f end) h = (rules.third_is base at end f h.0, h.1)
        some (stopped why place) h = h
    third_in_lem s (Fraction bar) at l = (rules.no_third bar at, l)

    only_in : (at hi : ℕ) (f : Field) (end : ℕ) → FieldFrom at f end → end ≤ hi → GotIn (ListFrom at) hi (only_list f end)
    unfolding only_list
    only_in at hi empty end a h = omega arith
    only_in at hi (symbol family code) end a h = omega arith
    only_in at hi (list l) end a h = (a, h)

    list_at_in : (s : List ℕ) (at : ℕ) → at ≤ length s → GotIn (ListFrom at) (length s) (list_at long_format R levels s at)
    unfolding list_at
    list_at_in s at l =
        then_in (FieldFrom at) (ListFrom at) (length s) (field_at long_format R levels s at) only_list (field_by_in s at l) (only_in at (length s))

    held_in_lem : (only : Bool) (at hi : ℕ) (f : Field) (end : ℕ) → FieldFrom at f end → end ≤ hi → GotIn (FieldFrom at) hi (held_in only f end)
    unfolding held_in
    held_in_lem true at hi f end a h =
        then_in (ListFrom at) (FieldFrom at) hi (only_list f end) _ (only_in at hi f end a h) (λ l m b k. (b, k))
    held_in_lem false at hi f end a h = (a, h)

    first_in : (s : List ℕ) (kind : Kind) → opening_bytes kind ≤ length s →
        GotIn (FieldFrom (opening_bytes kind)) (length s) (first_at long_format R levels s kind)
    unfolding first_at
    first_in s kind l =
        let first = opening_bytes kind in
        then_in (FieldFrom first) (FieldFrom first) (length s) (field_at long_format R levels s first) _ (field_by_in s first l)
        (held_in_lem (holds_list kind) first (length s))

    -- ---- an item

    pub item_by_in : (s : List ℕ) → GotIn ItemTo (length s) (item_by long_format R levels s)
    unfolding item_by opened_by noad_at choice_at
    item_by_in s = go (opening_of s) (opening_fits s (opening_of s) refl)
      where
        go : (o : Opening) → opened_bytes o ≤ length s → GotIn ItemTo (length s) (opened_by long_format R levels s o)
        go NoItem h = omega arith
        go (Fields kind) h =
            let n = length s in
            then_in (FieldFrom (opening_bytes kind)) ItemTo n (first_at long_format R levels s kind) _ (first_in s kind h) (λ x m₁ a l₁.
            then_in (FieldFrom m₁) ItemTo n (field_at long_format R levels s m₁) _ (field_by_in s m₁ l₁) (λ y m₂ b l₂.
            then_in (ThirdFrom kind m₂) ItemTo n (third_at long_format R levels s kind m₂) _ (third_in_lem s kind m₂ l₂) (λ z m₃ c l₃.
            (rules.noad_is kind x y z m₁ m₂ m₃ a b c, l₃))))
        go (Kern n) h = (rules.kern_is n.0, h)
        go (Restyle n) h = (rules.restyle_is n, h)
        go Choice h =
            let n = length s in
            let list : ℕ → Got Items = list_at long_format R levels s in
            then_in (ListFrom choice_opening_bytes) ItemTo n (list choice_opening_bytes) _ (list_at_in s choice_opening_bytes h) (λ d m₁ a l₁.
            then_in (ListFrom m₁) ItemTo n (list m₁) _ (list_at_in s m₁ l₁) (λ t m₂ b l₂.
            then_in (ListFrom m₂) ItemTo n (list m₂) _ (list_at_in s m₂ l₂) (λ sc m₃ c l₃.
            then_in (ListFrom m₃) ItemTo n (list m₃) _ (list_at_in s m₃ l₃) (λ ss m₄ e l₄.
            (rules.choice_is d t sc ss m₁ m₂ m₃ m₄ a b c e, l₄)))))

    -- ---- a list

    list_in_lem : (s : List ℕ) → ReadIn p (length s) (list_by long_format R levels s)
    unfolding list_by rest_by before
    list_in_lem [] = rules.nil_is
    list_in_lem (x ∷ s) = go (item_by long_format R levels (x ∷ s)) (item_by_in (x ∷ s))
      where
        on : (size : ℕ) (i : Item) (r : Read) → p.OfItem size i → size ≤ length (x ∷ s) →
            ReadIn p (length (drop size (x ∷ s))) r → ReadIn p (length (x ∷ s)) (before i size r)
        on size i (good l) a h b =
            let all : size + length (drop size (x ∷ s)) ≡ length (x ∷ s) = omega (arith, length-drop size (x ∷ s)) in
            subst (λ (n : ℕ). p.OfItems n (cons i l)) all (rules.cons_is size (length (drop size (x ∷ s))) i l a b)
        on size i (fault why place) a h b = omega (arith, length-drop size (x ∷ s))

        go : (g : Got Item) → GotIn ItemTo (length (x ∷ s)) g → ReadIn p (length (x ∷ s)) (rest_by R levels (x ∷ s) g)
        go (got i size) h = on size i (R levels (drop size (x ∷ s))) h.0 h.1 (ih levels (drop size (x ∷ s)))
        go (stopped why place) h = h

  read_by_in : (f levels : ℕ) (s : List ℕ) → ReadIn p (length s) (read_by long_format f levels s)
  unfolding read_by
  read_by_in zero levels s = omega arith
  read_by_in (suc f) levels s = list_in_lem (read_by long_format f) (read_by_in f) levels s

  pub read_in : (levels : ℕ) (s : List ℕ) → ReadIn p (length s) (read levels s)
  unfolding read_under
  read_in levels s = read_by_in (suc (length s)) levels s

  pub field_in_lem : (levels : ℕ) (s : List ℕ) (at : ℕ) → at ≤ length s → GotIn (FieldFrom at) (length s) (field_at long_format read levels s at)
  field_in_lem = field_by_in read read_in

  pub item_in : (levels : ℕ) (s : List ℕ) → GotIn ItemTo (length s) (item_by long_format read levels s)
  item_in = item_by_in read read_in
