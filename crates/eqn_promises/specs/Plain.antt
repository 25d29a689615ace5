-- The trees that typed text means are plain: atoms and fractions alone, of symbols whose families and codes a formula's bytes hold.
--     Plain             a plain list; `PlainItem`, `PlainField` a plain item and field
--     FairNames         the words of a table have such symbols; `records_fair` those of a table of bytes have
--     row_plain         the items of a derivation are plain
-- A derivation is plain part by part, an operand as an item and as a field.
-- Assumes nothing.
use Rattle.std.specs.Prelude.{◌≡◌, Bool, ◌&&◌, ◌||◌, List, [], ◌∷◌, ℕ, suc, ◌+◌, ◌≤◌, ◌<◌, leb, length, take, get_or}
use Rattle.std.proofs.Math.Path.{refl}
use Rattle.std.proofs.Common.{subst, get_or-drop, leb-true}
use Rattle.std.proofs.Math.Bool.{true, and-eq-true_iff}
use Rattle.std.proofs.Math.Option.{Option, none, some}
use native.Mathlib.Omega.{arith}
use Rattle.laws.specs.Truths.{either}
use Rattle.words.specs.WordLaws.{Bytes}
use Rattle.formula.specs.declared.Class.{Class}
use Rattle.formula.specs.declared.Class.TheVariants.{Ord, Op, Bin, Rel, Open, Close, Punct, Inner}
use Rattle.formula.specs.declared.Limits.TheVariants.{DisplayOnly}
use Rattle.formula.specs.declared.Base.TheVariants.{Atom, Over, Under, Root, Fence}
use Rattle.formula.specs.declared.Kind.{Kind}
use Rattle.formula.specs.declared.Kind.TheVariants.{Scripted, Fraction}
use Rattle.formula.specs.Tree.{Items, Item, Field, nil, cons, noad, kern, restyle, choice, empty, symbol, list}
use Rattle.formula.specs.Heads.{is_op, is_display_only, greatest_family, greatest_class}
use Rattle.eqn_tokens.specs.Bytes.{all_word_bytes, same}
use Rattle.eqn_names.specs.Names.{Name, longest_name, name_in, record_bytes, well_formed, front_name, named, Records, ended, next}
use Rattle.eqn_grammar.specs.Grammar as grammar
use Rattle.eqn_meaning.specs.Meaning.{or_no_name, Operand, Nucleus, is_absent, atom, atom_of, in_list, fraction_item, fraction_of, limits_of, row_items, limited_item, limit_field, overs_operand, scripted_operand, script_field, primary_nucleus}

-- ---- plain trees

-- an atom, whose limits are 0 unless its class is Op, or a fraction, which has no third field
abbrev pub PlainKind : Kind → Field → Type 0
PlainKind (Scripted (Atom class limits)) z = (is_op class || is_display_only limits) ≡ true
PlainKind (Scripted Over) z = ⊥
PlainKind (Scripted Under) z = ⊥
PlainKind (Scripted (Root sign)) z = ⊥
PlainKind (Scripted (Fence left right)) z = ⊥
PlainKind (Fraction bar) z = z ≡ empty

unfoldable mutual
  pub Plain : Items → Type 0
  Plain nil = Unit {0}
  Plain (cons i r) = PlainItem i × Plain r

  pub PlainItem : Item → Type 0
  PlainItem (noad kind x y z) = PlainKind kind z × PlainField x × PlainField y × PlainField z
  PlainItem (kern n) = ⊥
  PlainItem (restyle n) = ⊥
  PlainItem (choice d t sc ss) = ⊥

  pub PlainField : Field → Type 0
  PlainField empty = Unit {0}
  PlainField (symbol family code) = (family ≤ greatest_family) × (code < 256)
  PlainField (list l) = Plain l

-- ---- items and operands

pub record PlainOperand (x : Operand) : Type 0 where
  pub item : PlainItem x.item
  pub field : PlainField x.field

in_list_plain : (i : Item) → PlainItem i → PlainField (in_list i)
unfolding Plain
in_list_plain i h = (h, tt)

module _ (n : Nucleus) (sub sup : Field) (x : PlainField n.field) (b : PlainField sub) (q : PlainField sup) where
  -- limits are 0
  atom_plain : PlainItem (atom n sub sup)
  unfolding Plain
  atom_plain = (limitless n.class, x, q, b)
    where
      limitless : (class : Class) → (is_op class || is_display_only DisplayOnly) ≡ true
      limitless Ord = refl
      limitless Op = refl
      limitless Bin = refl
      limitless Rel = refl
      limitless Open = refl
      limitless Close = refl
      limitless Punct = refl
      limitless Inner = refl

  atom_of_plain : PlainOperand (atom_of n sub sup)
  unfolding atom_of
  atom_of_plain =
      record {
        item = atom_plain;
        field = either PlainField (is_absent sub && is_absent sup) (λ e. x) (λ e. in_list_plain (atom n sub sup) atom_plain);
      }

fraction_plain : (x z : Operand) → PlainOperand x → PlainOperand z → PlainOperand (fraction_of x z)
unfolding Plain
fraction_plain x z p q =
    let i : PlainItem (fraction_item x z) = (refl, p.field, q.field, tt) in
    record { item = i; field = in_list_plain (fraction_item x z) i }

limits_plain : (x : Operand) (lower upper : Field) → PlainOperand x → PlainField lower → PlainField upper →
    PlainItem (limits_of x lower upper)
unfolding limits_of Plain
limits_plain x lower upper p f t =
    either PlainItem (is_absent lower && is_absent upper) (λ e. p.item) (λ e. (refl, p.field, t, f))

-- ---- names

abbrev pub Fair : Name → Type 0
Fair m = (m.family ≤ greatest_family) × (m.code < 256)

abbrev pub FairNames : List Name → Type 0
FairNames ns = (w : List ℕ) (m : Name) → named ns w ≡ some m → Fair m

front_fair : (s : List ℕ) (m : Name) → Bytes s → front_name s ≡ some m → Fair m
unfolding front_name
front_fair [] m byte e = let z : ◌≡◌ {A = ℕ} 0 1 = cc in absurd (omega arith)
front_fair (n ∷ s) m byte e =
    either (λ (o : Option Name). o ≡ some m → Fair m) (well_formed n s) (λ t e. found t (cc))
    (λ t e. let z : ◌≡◌ {A = ℕ} 0 1 = cc in absurd (omega arith)) e
  where
    -- what comes before the family's test, and the test
    first : Bool
    first = leb 1 n && leb n longest_name && leb (n + 3) (length s) && all_word_bytes (take n s)

    small : Bool
    small = leb (get_or s n 0) greatest_family

    found : well_formed n s ≡ true → name_in n s ≡ m → Fair m
    found t is =
        let to-family = ((and-eq-true_iff (first && small) (leb (get_or s (n + 2) 0) greatest_class)).0 t).0 in
        let family = leb-true (get_or s n 0) greatest_family ((and-eq-true_iff first small).0 to-family).1 in
        subst Fair is (family, omega (arith, byte (suc (n + 1))))

-- of a table of bytes
pub records_fair : {s : List ℕ} {ns : List Name} → Records s ns → Bytes s → FairNames ns
unfolding named
records_fair ended byte w m e = let z : ◌≡◌ {A = ℕ} 0 1 = cc in absurd (omega arith)
records_fair (next {s = s} {m = n} front rest) byte w m e =
    either (λ (o : Option Name). o ≡ some m → Fair m) (same n.bytes w)
    (λ t e. front_fair s m byte (cc)) (λ t e. records_fair rest (λ i. rw get_or-drop (byte (record_bytes n + i))) w m e) e

-- ---- derivations

module _ (ns : List Name) (fair : FairNames ns) where
  word_plain : (w : List ℕ) → PlainField (primary_nucleus ns (grammar.named w)).field
  unfolding row_items Plain
  word_plain w = go (named ns w) (fair w)
    where
      go : (o : Option Name) → ((m : Name) → o ≡ some m → Fair m) → Fair (or_no_name o)
      go none f = (omega arith, omega arith)
      go (some m) f = f m refl

  mutual
    unfolding row_items Plain

    pub row_plain : (r : grammar.Row) → Plain (row_items ns r)
    row_plain grammar.nil = tt
    row_plain (grammar.beside l r) = (limited_plain l, row_plain r)

    limited_plain : (l : grammar.Limited) → PlainItem (limited_item ns l)
    limited_plain (grammar.limited o f t) = limits_plain _ _ _ (overs_plain o) (limit_plain f) (limit_plain t)

    limit_plain : (o : grammar.NoOvers) → PlainField (limit_field ns o)
    limit_plain grammar.no_overs = tt
    limit_plain (grammar.some_overs o) = (overs_plain o).field

    overs_plain : (o : grammar.Overs) → PlainOperand (overs_operand ns o)
    overs_plain (grammar.single s) = scripted_plain s
    overs_plain (grammar.fraction o s) = fraction_plain _ _ (overs_plain o) (scripted_plain s)

    scripted_plain : (s : grammar.Scripted) → PlainOperand (scripted_operand ns s)
    scripted_plain (grammar.scripted p b q) = atom_of_plain _ _ _ (primary_plain p) (script_plain b) (script_plain q)

    script_plain : (p : grammar.NoPrimary) → PlainField (script_field ns p)
    script_plain grammar.no_primary = tt
    script_plain (grammar.some_primary p) = primary_plain p

    primary_plain : (p : grammar.Primary) → PlainField (primary_nucleus ns p).field
    primary_plain (grammar.named w) = word_plain w
    primary_plain (grammar.braced r) = row_plain r
