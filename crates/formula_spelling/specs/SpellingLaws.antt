-- A list of bytes that reads is the spelling of its tree; so two that read to the same tree are the same, and of each list there is one
-- opening.
--     opening_spelled     the bytes of an item before its fields, from what they say
--     head_spelled        those of a field, or of a list's opening
--     spelled             a list that reads, whole; field-spelled    a field of its first item
--     read_once           two lists of bytes that read to the same tree are the same, and so are two formulas (`formula_once`), and
--                         two list fields with the same list (`list_once`)
-- Each goes by the cases of the definition, whose tests `either` takes apart.
-- Assumes nothing.
use Rattle.std.proofs.Math.Path.{◌≡◌, refl, ap}
use Rattle.std.proofs.Common.{sym, subst, ap₂, ◌∙◌, inl, inr, ⊎_elim, arith, length-drop, take-append-drop, take-add, get_or-drop, Fits}
use Rattle.std.specs.Prelude.{◌⊎◌, Bool, ◌&&◌, ◌||◌, leb, eqb, nat_abs, length, take, get_or}
use Rattle.std.proofs.Math.Bool.{true, false, and-eq-true_iff}
use mathlib.Core.List.{List, [], ◌∷◌, ◌++◌, map, append_assoc, append-nil}
use Rattle.std.proofs.Math.Option.{Option, none, some}
use Prim.Native.Nat.{ℕ, zero, suc, ◌+◌, ◌-◌, ◌*◌, ◌/◌, ◌%◌, ◌≤◌, ◌<◌}
use Rattle.std.proofs.Math.ListN.{drop, get_elem?}
use Rattle.std.specs.Int.{w8}
use borrow.Author.Tests.{eqb-true, le-leb}
use Rattle.laws.specs.Truths.{either}
use Rattle.words.specs.Words.{little_endian, word_range, signed_word, word_of, four_bytes}
use Rattle.words.specs.WordLaws.{Bytes, word_signed, four_again}
use Rattle.formula.specs.declared.Class.{Class}
use Rattle.formula.specs.declared.Limits.{Limits}
use Rattle.formula.specs.declared.Bar.{Bar}
use Rattle.formula.specs.declared.Delimiter.{Delimiter}
use Rattle.formula.specs.declared.Kind.{Kind}
use Rattle.formula.specs.declared.Kind.TheVariants.{Scripted, Fraction}
use Rattle.formula.specs.declared.Mark.{Mark}
use Rattle.formula.specs.declared.Mark.TheVariants.{AT, OV, UN, FR, KN, ST, C4, RD, FE, Unknown}
use Rattle.formula.specs.declared.Opening.{Opening}
use Rattle.formula.specs.declared.Opening.TheVariants.{NoItem, Fields, Kern, Restyle, Choice}
use Rattle.formula.specs.declared.FieldHead.{FieldHead}
use Rattle.formula.specs.declared.FieldHead.TheVariants.{NoField, Empty, Symbol, Sublist, CutSublist}
use Rattle.formula.specs.Format.{long_format}
use Rattle.formula.specs.Tree.{Items, Field, opening_bytes, kern_bytes, restyle_bytes, choice_opening_bytes, symbol_bytes, greatest_short, short_opening_bytes, long_opening_bytes, list_opening_bytes, items_bytes}
use Rattle.formula.specs.Marks.{Row, rows, mark_in, mark_of}
use Rattle.formula.specs.Heads.{classes, class_number, limit_kinds, bars, is_op, is_display_only, atom_of, atom_opening, fraction_of, fraction_opening, greatest_kern, kern_within, kern_opening, greatest_style, style_opening, greatest_family, good_delimiter, root_of, delimiter, behind_delimiter, root_opening, fence_of, fence_opening, opens, opening_of, symbol_head, sublist_head, list_head, long_list_head, field_head_under, field_head}
use Rattle.formula.specs.Reading.{good, read_formula, read}
use Rattle.formula.specs.Places.{Readable, tree_of, head_bytes, contents, field_of, GoodField, has_third, head_at, field_end, second, third, third_end, list_place, item_size, field_in, third_in, list_in, item_of, GoodFieldAt, GoodThird, GoodListAt, GoodItem}
use Rattle.formula_spelling.specs.Spelling.{letters, limits_number, bar_number, kind_spelling, list_opening, third_spelling, spelling, item_spelling, field_spelling, opened}
use Rattle.formula.specs.HeadLaws.{contents_shorter}
use Rattle.formula.specs.ReadingLaws.{by_length}
use Rattle.formula.specs.PlacesLaws.{readable_of, tree_is, tree_none, step, list_good_field, items_bytes_lem}
use Rattle.formula.specs.FormatLaws.{reads_so}

-- ---- bytes

bytes_drop : (k : ℕ) (s : List ℕ) → Bytes s → Bytes (drop k s)
bytes_drop k s b = λ i. rw get_or-drop (b (k + i))

bytes_take : (k : ℕ) (s : List ℕ) → Bytes s → Bytes (take k s)
bytes_take zero s b = λ i. omega arith
bytes_take (suc k) [] b = b
bytes_take (suc k) (x ∷ s) b = go (bytes_take k s (λ j. b (suc j)))
  where
    go : Bytes (take k s) → (i : ℕ) → Fits w8 (get_or (x ∷ take k s) i 0)
    go rest zero = b 0
    go rest (suc i) = rest i

bytes_within : (s : List ℕ) (opening n : ℕ) → Bytes s → Bytes (contents opening n s)
bytes_within s opening n b = bytes_take n (drop opening s) (bytes_drop opening s b)

two_sum : (a b : ℕ) → little_endian 2 (a ∷ b ∷ []) ≡ a + 256 * b
unfolding little_endian
two_sum a b = omega arith

four_small : (a b c d : ℕ) (s : List ℕ) → Fits w8 a → Fits w8 b → Fits w8 c → Fits w8 d → little_endian 4 (a ∷ b ∷ c ∷ d ∷ s) < word_range
unfolding little_endian
four_small a b c d s p q r t = omega arith

-- ---- what opens an item

abbrev OpeningSpelled : List ℕ → Opening → Type 0
OpeningSpelled s NoItem = Unit {0}
OpeningSpelled s (Fields kind) = take (opening_bytes kind) s ≡ kind_spelling kind
OpeningSpelled s (Kern n) = take kern_bytes s ≡ letters KN ++ four_bytes (word_of n.0)
OpeningSpelled s (Restyle n) = take restyle_bytes s ≡ letters ST ++ (n ∷ [])
OpeningSpelled s Choice = take choice_opening_bytes s ≡ letters C4

abbrev letters_of : Row → List ℕ
letters_of r = r.first ∷ r.second ∷ []

-- the letters of a mark, by a table in which each row has those of its own
mark_letters : (rs : List Row) → map letters_of rs ≡ map (λ (r : Row). letters r.mark) rs → (a b : ℕ) →
    (mark_in rs a b ≡ Unknown) ⊎ (a ∷ b ∷ [] ≡ letters (mark_in rs a b))
unfolding mark_in
mark_letters [] own a b = inl refl
mark_letters (r ∷ rs) own a b =
    let first : letters_of r ≡ letters r.mark = cc in
    let others : map letters_of rs ≡ map (λ (r : Row). letters r.mark) rs = cc in
    either (λ (m : Mark). (m ≡ Unknown) ⊎ (a ∷ b ∷ [] ≡ letters m)) (eqb a r.first && eqb b r.second)
    (λ e.
    let both = (and-eq-true_iff (eqb a r.first) (eqb b r.second)).0 e in
    inr (ap₂ (λ (x y : ℕ). x ∷ y ∷ []) (eqb-true a r.first both.0) (eqb-true b r.second both.1) ∙ first))
    (λ e. mark_letters rs others a b)

-- whether the values of a list are numbered from k on
abbrev are_numbered : {A : Type 0} → (A → ℕ) → ℕ → List A → Bool
are_numbered number k [] = true
are_numbered number k (a ∷ l) = eqb (number a) k && are_numbered number (suc k) l

numbered_from : {A : Type 0} (number : A → ℕ) (k : ℕ) (l : List A) → are_numbered number k l ≡ true → (n : ℕ) (a : A) →
    get_elem? l n ≡ some a → k + n ≡ number a
numbered_from number k [] h n a e = let z : ◌≡◌ {A = ℕ} 0 1 = cc in absurd (omega arith)
numbered_from {A} number k (c ∷ l) h n a e = go n e (numbered_from number (suc k) l both.1)
  where
    both : (eqb (number c) k ≡ true) × (are_numbered number (suc k) l ≡ true)
    both = (and-eq-true_iff (eqb (number c) k) (are_numbered number (suc k) l)).0 h

    go : (n : ℕ) → get_elem? (c ∷ l) n ≡ some a → ((n : ℕ) (a : A) → get_elem? l n ≡ some a → suc k + n ≡ number a) → k + n ≡ number a
    go zero e rest = let same : c ≡ a = cc in omega (arith, eqb-true (number c) k both.0, ap number same)
    go (suc n) e rest = omega (arith, rest n a e)

numbered : {A : Type 0} (number : A → ℕ) (l : List A) → are_numbered number 0 l ≡ true → (n : ℕ) (a : A) → get_elem? l n ≡ some a →
    n ≡ number a
numbered number l h n a e = omega (arith, numbered_from number 0 l h n a e)

at_spelled : (s : List ℕ) → OpeningSpelled (65 ∷ 84 ∷ s) (opens AT s)
unfolding opens atom_opening atom_of
at_spelled [] = tt
at_spelled (c ∷ []) = tt
at_spelled (c ∷ d ∷ s) = go (get_elem? classes c) (get_elem? limit_kinds d) refl refl
  where
    go : (class : Option Class) (limits : Option Limits) → get_elem? classes c ≡ class → get_elem? limit_kinds d ≡ limits →
        OpeningSpelled (65 ∷ 84 ∷ c ∷ d ∷ s) (atom_of class limits)
    go none limits e f = tt
    go (some class) none e f = tt
    go (some class) (some limits) e f =
        either (OpeningSpelled (65 ∷ 84 ∷ c ∷ d ∷ s)) (is_op class || is_display_only limits)
        (λ t. ap₂ (λ (x y : ℕ). 65 ∷ 84 ∷ x ∷ y ∷ []) (numbered class_number classes refl c class e) (numbered limits_number limit_kinds refl d limits f)) (λ t. tt)

fr_spelled : (s : List ℕ) → OpeningSpelled (70 ∷ 82 ∷ s) (opens FR s)
unfolding opens fraction_opening fraction_of
fr_spelled [] = tt
fr_spelled (c ∷ s) = go (get_elem? bars c) refl
  where
    go : (bar : Option Bar) → get_elem? bars c ≡ bar → OpeningSpelled (70 ∷ 82 ∷ c ∷ s) (fraction_of bar)
    go none e = tt
    go (some bar) e = ap (λ (x : ℕ). 70 ∷ 82 ∷ x ∷ []) (numbered bar_number bars refl c bar e)

kn_spelled : (s : List ℕ) → Bytes s → OpeningSpelled (75 ∷ 78 ∷ s) (opens KN s)
unfolding opens kern_opening kern_within
kn_spelled [] byte = tt
kn_spelled (c ∷ []) byte = tt
kn_spelled (c ∷ d ∷ []) byte = tt
kn_spelled (c ∷ d ∷ e ∷ []) byte = tt
kn_spelled (c ∷ d ∷ e ∷ f ∷ s) byte =
    either (OpeningSpelled (75 ∷ 78 ∷ c ∷ d ∷ e ∷ f ∷ s)) (leb (nat_abs (signed_word w)) greatest_kern)
    (λ t. sym (ap (λ (x : List ℕ). 75 ∷ 78 ∷ x) (ap four_bytes (word_signed w small) ∙ four_again (c ∷ d ∷ e ∷ f ∷ s) (omega arith) byte)))
    (λ t. tt)
  where
    w : ℕ
    w = little_endian 4 (c ∷ d ∷ e ∷ f ∷ s)

    small : w < word_range
    small = four_small c d e f s (byte 0) (byte 1) (byte 2) (byte 3)

st_spelled : (s : List ℕ) → OpeningSpelled (83 ∷ 84 ∷ s) (opens ST s)
unfolding opens style_opening
st_spelled [] = tt
st_spelled (n ∷ s) = either (OpeningSpelled (83 ∷ 84 ∷ n ∷ s)) (leb n greatest_style) (λ t. refl) (λ t. tt)

-- s are the last bytes of t
behind_spelled : (t s : List ℕ) (opening : Delimiter → List ℕ → Opening) →
    ((a b c d : ℕ) (r : List ℕ) → s ≡ a ∷ b ∷ c ∷ d ∷ r → OpeningSpelled t (opening (delimiter a b c d) r)) →
    OpeningSpelled t (behind_delimiter opening s)
unfolding behind_delimiter
behind_spelled t [] opening f = tt
behind_spelled t (a ∷ []) opening f = tt
behind_spelled t (a ∷ b ∷ []) opening f = tt
behind_spelled t (a ∷ b ∷ c ∷ []) opening f = tt
behind_spelled t (a ∷ b ∷ c ∷ d ∷ r) opening f = f a b c d r refl

rd_spelled : (s : List ℕ) → OpeningSpelled (82 ∷ 68 ∷ s) (opens RD s)
unfolding opens root_opening root_of
rd_spelled s =
    behind_spelled (82 ∷ 68 ∷ s) s _ (λ a b c d r e.
    either (OpeningSpelled (82 ∷ 68 ∷ s)) (good_delimiter (delimiter a b c d)) (λ t. ap (λ (s : List ℕ). take 6 (82 ∷ 68 ∷ s)) e) (λ t. tt))

fe_spelled : (s : List ℕ) → OpeningSpelled (70 ∷ 69 ∷ s) (opens FE s)
unfolding opens fence_opening fence_of
fe_spelled s =
    behind_spelled (70 ∷ 69 ∷ s) s _ (λ a b c d r e.
    behind_spelled (70 ∷ 69 ∷ s) r _ (λ a' b' c' d' r' e'.
    either (OpeningSpelled (70 ∷ 69 ∷ s)) (good_delimiter (delimiter a b c d) && good_delimiter (delimiter a' b' c' d'))
    (λ t. ap (λ (s : List ℕ). take 10 (70 ∷ 69 ∷ s)) (e ∙ ap (λ (r : List ℕ). a ∷ b ∷ c ∷ d ∷ r) e')) (λ t. tt)))

opens_spelled : (m : Mark) (s : List ℕ) → Bytes s → OpeningSpelled (letters m ++ s) (opens m s)
unfolding opens
opens_spelled AT s byte = at_spelled s
opens_spelled OV s byte = refl
opens_spelled UN s byte = refl
opens_spelled FR s byte = fr_spelled s
opens_spelled KN s byte = kn_spelled s byte
opens_spelled ST s byte = st_spelled s
opens_spelled C4 s byte = refl
opens_spelled RD s byte = rd_spelled s
opens_spelled FE s byte = fe_spelled s
opens_spelled Unknown s byte = tt

opening_spelled : (s : List ℕ) → Bytes s → OpeningSpelled s (opening_of s)
unfolding opening_of mark_of opens
opening_spelled [] byte = tt
opening_spelled (a ∷ []) byte = tt
opening_spelled (a ∷ b ∷ s) byte =
    let m = mark_of a b in
    ⊎_elim (λ none. subst (λ (m : Mark). OpeningSpelled (a ∷ b ∷ s) (opens m s)) (sym none) tt)
    (λ own. subst (λ (l : List ℕ). OpeningSpelled (l ++ s) (opens m s)) (sym own) (opens_spelled m s (bytes_drop 2 (a ∷ b ∷ s) byte)))
    (mark_letters rows refl a b)

-- ---- a field's head

module _ (n : ℕ) where
  short_opening : n ≤ greatest_short → list_opening n ≡ 2 ∷ n % 256 ∷ n / 256 ∷ []
  unfolding list_opening
  short_opening h = simp (list_opening, le-leb n greatest_short h)

  long_opening : long_opening_bytes ≡ list_opening_bytes n → list_opening n ≡ 3 ∷ four_bytes n
  unfolding list_opening list_opening_bytes
  long_opening = go (leb n greatest_short)
    where
      go : (t : Bool) → ◌≡◌ {A = ℕ} long_opening_bytes (elim t [ true ↦ short_opening_bytes | false ↦ long_opening_bytes ]) →
          ◌≡◌ {A = List ℕ} (elim t [ true ↦ 2 ∷ n % 256 ∷ n / 256 ∷ [] | false ↦ 3 ∷ four_bytes n ]) (3 ∷ four_bytes n)
      go true e = absurd (omega arith)
      go false e = refl

abbrev HeadSpelled : List ℕ → FieldHead → Type 0
HeadSpelled s NoField = Unit {0}
HeadSpelled s Empty = take 1 s ≡ 0 ∷ []
HeadSpelled s (Symbol family code) = take symbol_bytes s ≡ 1 ∷ family ∷ code ∷ []
HeadSpelled s (Sublist opening n) = take opening s ≡ list_opening n
HeadSpelled s CutSublist = Unit {0}

symbol_spelled : (s : List ℕ) → HeadSpelled (1 ∷ s) (symbol_head s)
unfolding symbol_head
symbol_spelled [] = tt
symbol_spelled (family ∷ []) = tt
symbol_spelled (family ∷ code ∷ s) =
    either (HeadSpelled (1 ∷ family ∷ code ∷ s)) (leb family greatest_family) (λ e. refl) (λ e. tt)

sublist_spelled : (t s : List ℕ) (opening n : ℕ) → (opening ≡ list_opening_bytes n → take opening t ≡ list_opening n) →
    HeadSpelled t (sublist_head opening n s)
unfolding sublist_head
sublist_spelled t s opening n f =
    let own = eqb opening (list_opening_bytes n) in
    either (HeadSpelled t) (own && leb n (length s))
    (λ e. f (eqb-true opening (list_opening_bytes n) ((and-eq-true_iff own (leb n (length s))).0 e).0)) (λ e. tt)

list_spelled : (s : List ℕ) → Bytes s → HeadSpelled (2 ∷ s) (list_head s)
unfolding list_head
list_spelled [] byte = tt
list_spelled (a ∷ []) byte = tt
list_spelled (a ∷ b ∷ s) byte =
    sublist_spelled (2 ∷ a ∷ b ∷ s) s short_opening_bytes n (λ e.
    sym (short_opening n (omega (arith, is, byte 0, byte 1)) ∙ ap₂ (λ (x y : ℕ). 2 ∷ x ∷ y ∷ []) low high))
  where
    n : ℕ
    n = little_endian 2 (a ∷ b ∷ [])

    is : n ≡ a + 256 * b
    is = two_sum a b

    low : n % 256 ≡ a
    low = omega (arith, is, byte 0)

    high : n / 256 ≡ b
    high = omega (arith, is, byte 0)

long_list_spelled : (s : List ℕ) → Bytes s → HeadSpelled (3 ∷ s) (long_list_head s)
unfolding long_list_head
long_list_spelled [] byte = tt
long_list_spelled (a ∷ []) byte = tt
long_list_spelled (a ∷ b ∷ []) byte = tt
long_list_spelled (a ∷ b ∷ c ∷ []) byte = tt
long_list_spelled (a ∷ b ∷ c ∷ d ∷ s) byte =
    let front = a ∷ b ∷ c ∷ d ∷ [] in
    let n = little_endian 4 front in
    sublist_spelled (3 ∷ a ∷ b ∷ c ∷ d ∷ s) s long_opening_bytes n (λ e.
    sym (long_opening n e ∙ ap (λ (x : List ℕ). 3 ∷ x) (four_again front (omega arith) (bytes_take 4 (a ∷ b ∷ c ∷ d ∷ s) byte))))

head_spelled : (s : List ℕ) → Bytes s → HeadSpelled s (field_head s)
unfolding field_head_under
head_spelled [] byte = tt
head_spelled (kind ∷ s) byte =
    let P = HeadSpelled (kind ∷ s) in
    let rest = bytes_drop 1 (kind ∷ s) byte in
    let by : (k : ℕ) (h : FieldHead) → HeadSpelled (k ∷ s) h → eqb kind k ≡ true → P h =
    λ k h q e. rw (eqb-true kind k e) q in
    either P (eqb kind 0) (by 0 Empty refl) (λ e.
    either P (eqb kind 1) (by 1 (symbol_head s) (symbol_spelled s)) (λ e.
    either P (eqb kind 2) (by 2 (list_head s) (list_spelled s rest)) (λ e.
    either P (eqb kind 3 && true)
    (λ e. by 3 (long_list_head s) (long_list_spelled s rest) ((and-eq-true_iff (eqb kind 3) true).0 e).0) (λ e. tt))))

-- ---- a list that reads

-- behind so many bytes that are p, so many more that are q
pass : (s p q : List ℕ) (at n : ℕ) → take at s ≡ p → take n (drop at s) ≡ q → take (at + n) s ≡ p ++ q
pass s p q at n e f = take-add at n s ∙ ap₂ ◌++◌ e f

-- a list field with its list, from its kind byte on
list_whole : (r : List ℕ) (opening n : ℕ) → Bytes r → field_head r ≡ Sublist opening n → Readable (contents opening n r) →
    let inner = contents opening n r in
    spelling (tree_of inner) ≡ inner → take (opening + n) r ≡ opened (tree_of inner) (spelling (tree_of inner))
list_whole r opening n byte e g same =
    let inner = contents opening n r in
    let long : n ≡ items_bytes (tree_of inner) = sym (items_bytes_lem inner g ∙ (contents_shorter r opening n e).0) in
    pass r _ _ opening n (subst (HeadSpelled r) e (head_spelled r byte) ∙ ap list_opening long) (sym same)

module _ (s : List ℕ) (byte : Bytes s)
    (ih : (r : List ℕ) → length r < length s → Bytes r → Readable r → spelling (tree_of r) ≡ r) where
  field_by_spelled : (at : ℕ) → GoodFieldAt s at → take (head_bytes (head_at s at)) (drop at s) ≡ field_spelling (field_in s at)
  unfolding field_spelling
  field_by_spelled at g = go (head_at s at) refl (head_spelled r (bytes_drop at s byte)) g
    where
      r : List ℕ
      r = drop at s

      go : (h : FieldHead) → field_head r ≡ h → HeadSpelled r h → GoodField r h → take (head_bytes h) r ≡ field_spelling (field_of r h)
      go NoField e q g = absurd g
      go Empty e q g = q
      go (Symbol family code) e q g = q
      go (Sublist opening n) e q g =
          let k = contents_shorter r opening n e in
          let b = bytes_drop at s byte in
          list_whole r opening n b e g (ih (contents opening n r) (omega (arith, length-drop at s)) (bytes_within r opening n b) g)
      go CutSublist e q g = absurd g

  -- behind bytes that are p
  field_pass : (at : ℕ) (p : List ℕ) → GoodFieldAt s at → take at s ≡ p → take (field_end s at) s ≡ p ++ field_spelling (field_in s at)
  field_pass at p g e = pass s p _ at (head_bytes (head_at s at)) e (field_by_spelled at g)

  third_pass : (kind : Kind) (at : ℕ) (p : List ℕ) → GoodThird s (has_third kind) at → take at s ≡ p →
      take (third_end s (has_third kind) at) s ≡ p ++ third_spelling kind (field_spelling (third_in s (has_third kind) at))
  third_pass (Scripted base) at p g e = field_pass at p g e
  third_pass (Fraction bar) at p g e = e ∙ sym (append-nil p)

  list_pass : (n : ℕ) (p : List ℕ) → GoodListAt s (list_place s n) → take (list_place s n) s ≡ p →
      take (list_place s (suc n)) s ≡ p ++ opened (list_in s n) (spelling (list_in s n))
  unfolding field_spelling
  list_pass n p g e =
      let is = list_good_field (drop (list_place s n) s) (head_at s (list_place s n)) g in
      field_pass (list_place s n) p is.0 e ∙ ap (λ (f : Field). p ++ field_spelling f) is.1

  item_by_spelled : (o : Opening) → OpeningSpelled s o → GoodItem s o → take (item_size s o) s ≡ item_spelling (item_of s o)
  unfolding item_spelling
  item_by_spelled NoItem q g = absurd g
  item_by_spelled (Fields kind) q g =
      let x = field_pass (opening_bytes kind) _ g.0 q in
      let y = field_pass (second s kind) _ g.1 x in
      third_pass kind (third s kind) _ g.2 y ∙ simp append_assoc
  item_by_spelled (Kern n) q g = q
  item_by_spelled (Restyle n) q g = q
  item_by_spelled Choice q g =
      let d = list_pass 0 _ (g 0 (omega arith)) q in
      let t = list_pass 1 _ (g 1 (omega arith)) d in
      let sc = list_pass 2 _ (g 2 (omega arith)) t in
      list_pass 3 _ (g 3 (omega arith)) sc ∙ simp append_assoc

Spelled : List ℕ → Type 0
Spelled s = Bytes s → Readable s → spelling (tree_of s) ≡ s

spelled_step : (s : List ℕ) → ((r : List ℕ) → length r < length s → Spelled r) → Spelled s
unfolding Spelled spelling
spelled_step s ih byte r = go (length s) refl
  where
    go : (n : ℕ) → length s ≡ n → spelling (tree_of s) ≡ s
    go zero z = ap spelling (tree_none s z).1 ∙ nothing s z
      where
        nothing : (s : List ℕ) → length s ≡ 0 → [] ≡ s
        nothing [] e = refl
        nothing (a ∷ s) e = absurd (omega arith)
    go (suc n) z =
        let o = opening_of s in
        let p = step s o refl r (omega arith) in
        let size = item_size s o in
        let k : length (drop size s) ≡ length s - size = length-drop size s in
        let first = item_by_spelled s byte ih o (opening_spelled s byte) p.item in
        let others = ih (drop size s) (omega (arith, p.some, p.fits)) (bytes_drop size s byte) p.rest in
        ap spelling p.tree ∙ ap₂ ◌++◌ (sym first) others ∙ take-append-drop size s

pub spelled : (s : List ℕ) → Bytes s → Readable s → spelling (tree_of s) ≡ s
unfolding Spelled
spelled = by_length Spelled spelled_step

-- ---- so it is written in one way

pub read_once : (s t : List ℕ) (d e : ℕ) (l : Items) → Bytes s → Bytes t → read d s ≡ good l → read e t ≡ good l → s ≡ t
read_once s t d e l p q f g = sym (of s d p f) ∙ of t e q g
  where
    of : (s : List ℕ) (d : ℕ) → Bytes s → read d s ≡ good l → spelling l ≡ s
    of s d p f = ap spelling (sym (tree_is s d l f)) ∙ spelled s p (readable_of s d l f)

pub formula_once : (s t : List ℕ) (l : Items) → Bytes s → Bytes t → read_formula s ≡ good l → read_formula t ≡ good l → s ≡ t
formula_once s t l p q f g = read_once s t _ _ l p q (reads_so long_format s l f).1 (reads_so long_format t l g).1

-- two list fields that read to the same list, from their kind bytes to their last items
pub list_once : (s t : List ℕ) (opening n opening' n' : ℕ) → Bytes s → Bytes t →
    field_head s ≡ Sublist opening n → field_head t ≡ Sublist opening' n' →
    Readable (contents opening n s) → Readable (contents opening' n' t) →
    tree_of (contents opening n s) ≡ tree_of (contents opening' n' t) → take (opening + n) s ≡ take (opening' + n') t
list_once s t opening n opening' n' p q e f g h same = of s opening n p e g ∙ ap (λ (l : Items). opened l (spelling l)) same ∙ sym (of t opening' n' q f h)
  where
    of : (s : List ℕ) (opening n : ℕ) → Bytes s → field_head s ≡ Sublist opening n → Readable (contents opening n s) →
        take (opening + n) s ≡ opened (tree_of (contents opening n s)) (spelling (tree_of (contents opening n s)))
    of s opening n p e g = list_whole s opening n p e g (spelled (contents opening n s) (bytes_within s opening n p) g)
