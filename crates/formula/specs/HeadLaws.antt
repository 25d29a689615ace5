-- What a head speaks of lies in its list, and within its bounds.
--     head_fits            the bytes of a field
--     opening_short, opening_long     the bytes of a list's opening, by its length; opening_some    three at least
--     list_opening_lem         a list field opens with its kind byte and its length
--     contents_shorter     the items of a list field have as many bytes as it says, and fewer than what holds it
--     head_under, list_under     what a field is under another format
--     opening_fits         the bytes of an item before its fields
--     kern_small           a kern is within its bounds
--     style_small          a style change says one of the eight styles
-- Each goes by the cases of the definition, whose tests `either` takes apart.
-- Assumes nothing.
use Rattle.std.specs.Prelude.{◌≡◌, refl, ◌⊎◌, Bool, true, false, ◌&&◌, ◌||◌, List, [], ◌∷◌, ℕ, ◌+◌, ◌≤◌, ◌<◌, leb, eqb, ℤ, pos, negsuc, nat_abs, length, drop}
use Rattle.std.proofs.Common.{sym, subst, ◌∙◌, inl, inr, ⊎_elim, arith, length-take, length-drop}
use Rattle.std.proofs.Math.Bool.{and-eq-true_iff}
use Rattle.std.proofs.Math.Option.{Option, none, some}
use Rattle.std.proofs.Math.ListN.{get_elem?}
use borrow.Author.Tests.{leb-true, eqb-true, le-leb, lt-leb}
use Rattle.laws.specs.Truths.{either}
use Rattle.scaled.specs.declared.Sp.{Sp}
use Rattle.scaled.specs.Signed.{Within}
use Rattle.words.specs.Words.{little_endian, signed_word}
use Rattle.formula.specs.declared.Class.{Class}
use Rattle.formula.specs.declared.Limits.{Limits}
use Rattle.formula.specs.declared.Bar.{Bar}
use Rattle.formula.specs.declared.Delimiter.{Delimiter}
use Rattle.formula.specs.declared.Base.TheVariants.{Atom, Root, Fence}
use Rattle.formula.specs.declared.Kind.{Kind}
use Rattle.formula.specs.declared.Kind.TheVariants.{Scripted}
use Rattle.formula.specs.declared.Mark.{Mark}
use Rattle.formula.specs.declared.Mark.TheVariants.{AT, OV, UN, FR, KN, ST, C4, RD, FE, Unknown}
use Rattle.formula.specs.declared.Opening.{Opening}
use Rattle.formula.specs.declared.Opening.TheVariants.{NoItem, Fields, Kern, Restyle, Choice}
use Rattle.formula.specs.declared.FieldHead.{FieldHead}
use Rattle.formula.specs.declared.FieldHead.TheVariants.{NoField, Empty, Symbol, Sublist, CutSublist}
use Rattle.formula.specs.Format.{Format}
use Rattle.formula.specs.Tree.{opening_bytes, kern_bytes, restyle_bytes, greatest_short, short_opening_bytes, long_opening_bytes, list_opening_bytes}
use Rattle.formula.specs.Marks.{mark_of}
use Rattle.formula.specs.Heads.{classes, limit_kinds, bars, is_op, is_display_only, atom_of, atom_opening, fraction_of, fraction_opening, greatest_kern, kern_within, kern_opening, greatest_style, style_opening, greatest_family, good_delimiter, root_of, delimiter, behind_delimiter, root_opening, fence_of, fence_opening, opens, opening_of, symbol_head, sublist_head, list_head, long_list_head, field_head_under, field_head}
use Rattle.formula.specs.Places.{head_bytes, contents, opened_bytes}

-- ---- a field

ListOpens : FieldHead → Type 0
ListOpens NoField = Unit {0}
ListOpens Empty = Unit {0}
ListOpens (Symbol family code) = Unit {0}
ListOpens (Sublist opening n) = opening ≡ list_opening_bytes n
ListOpens CutSublist = Unit {0}

HeadIn : List ℕ → FieldHead → Type 0
HeadIn s h = (head_bytes h ≤ length s) × ListOpens h

symbol_in_lem : (kind : ℕ) (s : List ℕ) → HeadIn (kind ∷ s) (symbol_head s)
unfolding symbol_head HeadIn ListOpens
symbol_in_lem kind [] = (omega arith, tt)
symbol_in_lem kind (family ∷ []) = (omega arith, tt)
symbol_in_lem kind (family ∷ code ∷ s) =
    either (HeadIn (kind ∷ family ∷ code ∷ s)) (leb family greatest_family) (λ e. (omega arith, tt)) (λ e. (omega arith, tt))

-- s are the bytes of t behind the opening
sublist_in : (t s : List ℕ) (opening n : ℕ) → opening + length s ≤ length t → HeadIn t (sublist_head opening n s)
unfolding sublist_head HeadIn ListOpens
sublist_in t s opening n behind =
    let own = eqb opening (list_opening_bytes n) in
    let fits = leb n (length s) in
    either (HeadIn t) (own && fits)
    (λ e.
    let both = (and-eq-true_iff own fits).0 e in
    (omega (arith, leb-true n (length s) both.1), eqb-true opening (list_opening_bytes n) both.0))
    (λ e. (omega arith, tt))

list_in_lem : (kind : ℕ) (s : List ℕ) → HeadIn (kind ∷ s) (list_head s)
unfolding list_head HeadIn ListOpens
list_in_lem kind [] = (omega arith, tt)
list_in_lem kind (a ∷ []) = (omega arith, tt)
list_in_lem kind (a ∷ b ∷ s) = sublist_in (kind ∷ a ∷ b ∷ s) s short_opening_bytes (little_endian 2 (a ∷ b ∷ [])) (omega arith)

long_list_in : (kind : ℕ) (s : List ℕ) → HeadIn (kind ∷ s) (long_list_head s)
unfolding long_list_head HeadIn ListOpens
long_list_in kind [] = (omega arith, tt)
long_list_in kind (a ∷ []) = (omega arith, tt)
long_list_in kind (a ∷ b ∷ []) = (omega arith, tt)
long_list_in kind (a ∷ b ∷ c ∷ []) = (omega arith, tt)
long_list_in kind (a ∷ b ∷ c ∷ d ∷ s) =
    sublist_in (kind ∷ a ∷ b ∷ c ∷ d ∷ s) s long_opening_bytes (little_endian 4 (a ∷ b ∷ c ∷ d ∷ [])) (omega arith)

head_in : (s : List ℕ) → HeadIn s (field_head s)
unfolding field_head_under HeadIn ListOpens
head_in [] = (omega arith, tt)
head_in (kind ∷ s) =
    let P = HeadIn (kind ∷ s) in
    either P (eqb kind 0) (λ e. (omega arith, tt)) (λ e.
    either P (eqb kind 1) (λ e. symbol_in_lem kind s) (λ e.
    either P (eqb kind 2) (λ e. list_in_lem kind s) (λ e.
    either P (eqb kind 3 && true) (λ e. long_list_in kind s) (λ e. (omega arith, tt)))))

pub head_fits : (s : List ℕ) (h : FieldHead) → field_head s ≡ h → head_bytes h ≤ length s
unfolding HeadIn
head_fits s h e = (subst (HeadIn s) e (head_in s)).0

pub list_opening_lem : (s : List ℕ) (opening n : ℕ) → field_head s ≡ Sublist opening n → opening ≡ list_opening_bytes n
unfolding HeadIn ListOpens
list_opening_lem s opening n e = (subst (HeadIn s) e (head_in s)).1

module _ (n : ℕ) where
  pub opening_short : n ≤ greatest_short → list_opening_bytes n ≡ short_opening_bytes
  unfolding list_opening_bytes
  opening_short h = simp (list_opening_bytes, le-leb n greatest_short h)

  pub opening_long : greatest_short < n → list_opening_bytes n ≡ long_opening_bytes
  unfolding list_opening_bytes
  opening_long h = simp (list_opening_bytes, lt-leb n greatest_short h)

  pub opening_some : short_opening_bytes ≤ list_opening_bytes n
  unfolding list_opening_bytes
  opening_some = either (λ (k : ℕ). short_opening_bytes ≤ k) (leb n greatest_short) (λ e. omega arith) (λ e. omega arith)

pub contents_shorter : (s : List ℕ) (opening n : ℕ) → field_head s ≡ Sublist opening n →
    (length (contents opening n s) ≡ n) × (n < length s)
contents_shorter s opening n e =
    let fits = head_fits s (Sublist opening n) e in
    let opens = list_opening_lem s opening n e in
    (omega (arith, length-take n (drop opening s), length-drop opening s), omega (arith, opening_some n))

-- what a format has no kind for is no field, and all else is the same under every one
pub head_under : (f : Format) (s : List ℕ) → (field_head_under f s ≡ field_head s) ⊎ (field_head_under f s ≡ NoField)
unfolding field_head_under
head_under f [] = inl refl
head_under f (kind ∷ s) = go (eqb kind 0) (eqb kind 1) (eqb kind 2) (eqb kind 3) f.long_lists
  where
    head : Bool → Bool → Bool → Bool → FieldHead
    head empty symbol list long =
        elim empty [
          | true ↦ Empty
          | false ↦
              elim symbol [
                | true ↦ symbol_head s
                | false ↦
                    elim list [
                      | true ↦ list_head s
                      | false ↦ elim long [ true ↦ long_list_head s | false ↦ NoField ]
                    ]
              ]
        ]

    go : (empty symbol list long has : Bool) →
        (head empty symbol list (long && has) ≡ head empty symbol list (long && true)) ⊎ (head empty symbol list (long && has) ≡ NoField)
    go true symbol list long has = inl refl
    go false true list long has = inl refl
    go false false true long has = inl refl
    go false false false long true = inl refl
    go false false false true false = inr refl
    go false false false false false = inl refl

pub list_under : (f : Format) (s : List ℕ) (opening n : ℕ) → field_head_under f s ≡ Sublist opening n → field_head s ≡ Sublist opening n
list_under f s opening n e =
    ⊎_elim (λ same. sym same ∙ e) (λ none. let z : ◌≡◌ {A = ℕ} 0 1 = cc in absurd (omega arith)) (head_under f s)

-- ---- an item

NumberIn : Opening → Type 0
NumberIn NoItem = Unit {0}
NumberIn (Fields kind) = Unit {0}
NumberIn (Kern n) = Within greatest_kern n.0
NumberIn (Restyle n) = n ≤ greatest_style
NumberIn Choice = Unit {0}

OpeningIn : List ℕ → Opening → Type 0
OpeningIn s o = (opened_bytes o ≤ length s) × NumberIn o

-- a kind by a test
kind_in : (s : List ℕ) (kind : Kind) (t : Bool) → opening_bytes kind ≤ length s →
    OpeningIn s (elim t [ true ↦ Fields kind | false ↦ NoItem ])
unfolding OpeningIn NumberIn
kind_in s kind true h = (h, tt)
kind_in s kind false h = (omega arith, tt)

atom_in : (s : List ℕ) (class : Option Class) (limits : Option Limits) → 4 ≤ length s → OpeningIn s (atom_of class limits)
unfolding atom_of OpeningIn NumberIn
atom_in s none limits h = (omega arith, tt)
atom_in s (some class) none h = (omega arith, tt)
atom_in s (some class) (some limits) h = kind_in s (Scripted (Atom class limits)) (is_op class || is_display_only limits) h

fraction_in : (s : List ℕ) (bar : Option Bar) → 3 ≤ length s → OpeningIn s (fraction_of bar)
unfolding fraction_of OpeningIn NumberIn
fraction_in s none h = (omega arith, tt)
fraction_in s (some bar) h = (h, tt)

kern_in : (s : List ℕ) (n : ℤ) → kern_bytes ≤ length s → OpeningIn s (kern_within n)
unfolding kern_within OpeningIn NumberIn
kern_in s n h =
    either (OpeningIn s) (leb (nat_abs n) greatest_kern) (λ e. (h, small n (leb-true (nat_abs n) greatest_kern e))) (λ e. (omega arith, tt))
  where
    small : (n : ℤ) → nat_abs n ≤ greatest_kern → Within greatest_kern n
    small (pos m) l = omega arith
    small (negsuc m) l = omega arith

style_in : (s : List ℕ) (n : ℕ) → restyle_bytes ≤ length s →
    OpeningIn s (elim (leb n greatest_style) [ true ↦ Restyle n | false ↦ NoItem ])
unfolding OpeningIn NumberIn
style_in s n h =
    either (OpeningIn s) (leb n greatest_style) (λ e. (h, leb-true n greatest_style e)) (λ e. (omega arith, tt))

root_in : (s : List ℕ) (sign : Delimiter) → 6 ≤ length s → OpeningIn s (root_of sign)
unfolding root_of
root_in s sign h = kind_in s (Scripted (Root sign)) (good_delimiter sign) h

fence_in : (s : List ℕ) (left right : Delimiter) → 10 ≤ length s → OpeningIn s (fence_of left right)
unfolding fence_of
fence_in s left right h = kind_in s (Scripted (Fence left right)) (good_delimiter left && good_delimiter right) h

-- s are the last bytes of t
behind_in : (t s : List ℕ) (opening : Delimiter → List ℕ → Opening) →
    ((d : Delimiter) (r : List ℕ) → 4 + length r ≡ length s → OpeningIn t (opening d r)) → OpeningIn t (behind_delimiter opening s)
unfolding behind_delimiter OpeningIn NumberIn
behind_in t [] opening f = (omega arith, tt)
behind_in t (a ∷ []) opening f = (omega arith, tt)
behind_in t (a ∷ b ∷ []) opening f = (omega arith, tt)
behind_in t (a ∷ b ∷ c ∷ []) opening f = (omega arith, tt)
behind_in t (a ∷ b ∷ c ∷ d ∷ s) opening f = f (delimiter a b c d) s (omega arith)

opens_in : (a b : ℕ) (m : Mark) (s : List ℕ) → OpeningIn (a ∷ b ∷ s) (opens m s)
unfolding opens atom_opening fraction_opening kern_opening style_opening root_opening fence_opening OpeningIn NumberIn
opens_in a b AT [] = (omega arith, tt)
opens_in a b AT (c ∷ []) = (omega arith, tt)
opens_in a b AT (c ∷ d ∷ s) =
    atom_in (a ∷ b ∷ c ∷ d ∷ s) (get_elem? classes c) (get_elem? limit_kinds d) (omega arith)
opens_in a b OV s = (omega arith, tt)
opens_in a b UN s = (omega arith, tt)
opens_in a b FR [] = (omega arith, tt)
opens_in a b FR (c ∷ s) = fraction_in (a ∷ b ∷ c ∷ s) (get_elem? bars c) (omega arith)
opens_in a b KN [] = (omega arith, tt)
opens_in a b KN (c ∷ []) = (omega arith, tt)
opens_in a b KN (c ∷ d ∷ []) = (omega arith, tt)
opens_in a b KN (c ∷ d ∷ e ∷ []) = (omega arith, tt)
opens_in a b KN (c ∷ d ∷ e ∷ f ∷ s) =
    kern_in (a ∷ b ∷ c ∷ d ∷ e ∷ f ∷ s) (signed_word (little_endian 4 (c ∷ d ∷ e ∷ f ∷ s))) (omega arith)
opens_in a b ST [] = (omega arith, tt)
opens_in a b ST (c ∷ s) = style_in (a ∷ b ∷ c ∷ s) c (omega arith)
opens_in a b C4 s = (omega arith, tt)
opens_in a b RD s = behind_in (a ∷ b ∷ s) s _ (λ sign r l. root_in (a ∷ b ∷ s) sign (omega arith))
opens_in a b FE s =
    let t = a ∷ b ∷ s in
    behind_in t s _ (λ left r l. behind_in t r _ (λ right q k. fence_in t left right (omega arith)))
opens_in a b Unknown s = (omega arith, tt)

opening_in : (s : List ℕ) → OpeningIn s (opening_of s)
unfolding opening_of OpeningIn NumberIn
opening_in [] = (omega arith, tt)
opening_in (a ∷ []) = (omega arith, tt)
opening_in (a ∷ b ∷ s) = opens_in a b (mark_of a b) s

pub opening_fits : (s : List ℕ) (o : Opening) → opening_of s ≡ o → opened_bytes o ≤ length s
unfolding OpeningIn
opening_fits s o e = (subst (OpeningIn s) e (opening_in s)).0

pub kern_small : (s : List ℕ) (n : Sp) → opening_of s ≡ Kern n → Within greatest_kern n.0
unfolding OpeningIn NumberIn
kern_small s n e = (subst (OpeningIn s) e (opening_in s)).1

pub style_small : (s : List ℕ) (n : ℕ) → opening_of s ≡ Restyle n → n ≤ greatest_style
unfolding OpeningIn NumberIn
style_small s n e = (subst (OpeningIn s) e (opening_in s)).1
