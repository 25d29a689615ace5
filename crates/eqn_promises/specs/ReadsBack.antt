-- A plain tree reads back from its spelling, and so what typed text means is always a formula that reads, as itself.
--     kind_opens, field_head_lem     what stands at the head of an item and of a field that are spelled
--     field_at, noad_is     a spelled field and item are themselves by their heads, where the lists in them are, and what stands behind
--                           them is what was put there
--     spelling_reads        a plain list reads back from its spelling, if its lists nest no deeper than may be entered
--     read_within           a list that reads nests no deeper than may be entered
--     made_reads, formula_fits     a formula that is within the limits reads back, and one that reads is within them
-- An item is read by what `ItemIs` says of it with the lists in it for given, so the induction is on the tree alone.
-- Assumes nothing.
use Rattle.std.specs.Prelude.{◌≡◌, Bool, ◌&&◌, ℕ, zero, suc, ◌-◌, ◌≤◌, ◌<◌, leb, length}
use Rattle.std.proofs.Math.Path.{refl}
use Rattle.std.proofs.Common.{sym, ap, ap₂, ◌∙◌, arith, length-append, length-drop, drop-drop, leb-true, leb-false, le-leb, eq-eqb}
use Rattle.std.proofs.Math.Bool.{true, false, and-eq-true_iff}
use mathlib.Core.List.{List, [], ◌++◌, append_assoc}
use Rattle.std.proofs.Math.ListN.{drop}
use Rattle.std.proofs.Math.Seq.{take_at, drop_at}
use Rattle.laws.specs.Truths.{either}
use Rattle.words.specs.Words.{little_endian, word_range, four_bytes}
use Rattle.words.specs.WordLaws.{four_back}
use Rattle.formula.specs.declared.Base.TheVariants.{Atom, Over, Under, Root, Fence}
use Rattle.formula.specs.declared.Kind.{Kind}
use Rattle.formula.specs.declared.Kind.TheVariants.{Scripted, Fraction}
use Rattle.formula.specs.declared.Opening.{Opening}
use Rattle.formula.specs.declared.Opening.TheVariants.{NoItem, Fields, Kern, Restyle, Choice}
use Rattle.formula.specs.declared.FieldHead.{FieldHead}
use Rattle.formula.specs.declared.FieldHead.TheVariants.{NoField, Empty, Symbol, Sublist, CutSublist}
use Rattle.formula.specs.Format.{long_format, formula_limit, depth_limit}
use Rattle.formula.specs.Tree.{Items, Item, Field, nil, cons, noad, kern, restyle, choice, empty, symbol, list, opening_bytes, holds_list, greatest_short, short_opening_bytes, long_opening_bytes, list_opening_bytes, third_bytes, items_bytes, item_bytes, field_bytes}
use Rattle.formula.specs.Marks.{mark_in, mark_of}
use Rattle.formula.specs.Heads.{greatest_family, atom_of, atom_opening, fraction_of, fraction_opening, opens, opening_of, symbol_head, sublist_head, list_head, long_list_head, field_head_under, field_head}
use Rattle.formula.specs.Reading.{good, read, read_formula}
use Rattle.formula.specs.Places.{head_bytes, choice_lists, list_place, has_third, head_at, field_end, second, third, third_end, end, item_size}
use Rattle.formula.specs.HeadLaws.{opening_short, opening_long}
use Rattle.formula.specs.ReadingLaws.{by_length, Says, FieldIs, IsHeld, FieldAtIs, ThirdIs, NoadIs, ItemIs, item_map, size_some, Below, read_none, list_good, good_list}
use Rattle.formula.specs.PlacesLaws.{readable_of, tree_is, items_bytes_lem, opening_long as opening-two}
use Rattle.formula.specs.FormatLaws.{reads_so, so_reads}
use Rattle.formula_spelling.specs.Spelling.{kind_spelling, list_opening, third_spelling, spelling, item_spelling, field_spelling}
use Rattle.eqn_meaning.specs.Meaning.{deeper, items_within, item_within, field_within, fits_formula}
use Rattle.eqn_promises.specs.Plain.{PlainKind, Plain, PlainItem, PlainField}
use Rattle.eqn_meaning.specs.SpelledLength.{opening_length, kind_length, spelling_length, field_length}
use Rattle.eqn_promises.specs.SpelledBytes.{class_number_lem, limits_number_lem, bar_number_lem}

-- ---- heads

kind_opens : (kind : Kind) (z : Field) (s : List ℕ) → PlainKind kind z → opening_of (kind_spelling kind ++ s) ≡ Fields kind
unfolding opening_of mark_of mark_in opens atom_opening atom_of fraction_opening fraction_of
kind_opens (Scripted (Atom class limits)) z s h = rw ((class_number_lem class).0, (limits_number_lem limits).0, h, atom_of)
kind_opens (Scripted Over) z s h = absurd h
kind_opens (Scripted Under) z s h = absurd h
kind_opens (Scripted (Root sign)) z s h = absurd h
kind_opens (Scripted (Fence left right)) z s h = absurd h
kind_opens (Fraction bar) z s h = rw (bar_number_lem bar).0

-- the head of a field
abbrev head_of : Field → FieldHead
head_of empty = Empty
head_of (symbol family code) = Symbol family code
head_of (list l) = Sublist (list_opening_bytes (items_bytes l)) (items_bytes l)

sublist_head_lem : (opening m n : ℕ) (s : List ℕ) → m ≡ n → opening ≡ list_opening_bytes n → n ≤ length s →
    sublist_head opening m s ≡ Sublist (list_opening_bytes n) n
unfolding sublist_head
sublist_head_lem opening m n s e o h =
    rw (e, o, eq-eqb (list_opening_bytes n) (list_opening_bytes n) refl, le-leb n (length s) h, sublist_head) (ap₂ Sublist o e)

list_head_lem : (n : ℕ) (s : List ℕ) → n < word_range → n ≤ length s → field_head (list_opening n ++ s) ≡ Sublist (list_opening_bytes n) n
unfolding list_opening field_head_under list_head long_list_head little_endian four_bytes
list_head_lem n s small fits =
    either (λ (o : List ℕ). field_head (o ++ s) ≡ Sublist (list_opening_bytes n) n) (leb n greatest_short)
    (λ e. sublist_head_lem short_opening_bytes _ n s (omega arith) (sym (opening_short n (leb-true n greatest_short e))) fits)
    (λ e. sublist_head_lem long_opening_bytes _ n s (four_back n [] small) (sym (opening_long n (leb-false n greatest_short e))) fits)

field_head_lem : (f : Field) (s : List ℕ) → PlainField f → field_bytes f < word_range → field_head (field_spelling f ++ s) ≡ head_of f
unfolding field_spelling field_head_under symbol_head PlainField field_bytes
field_head_lem empty s h small = refl
field_head_lem (symbol family code) s h small = rw (le-leb family greatest_family h.0, symbol_head)
field_head_lem (list l) s h small =
    rw append_assoc
    (list_head_lem (items_bytes l) (spelling l ++ s) (omega arith) (omega (arith, spelling_length l, length-append (spelling l) s)))

-- ---- a field and an item by their heads

-- what is said of the list that a field is
abbrev Inside : Says → Field → Type 0
Inside P empty = Unit {0}
Inside P (symbol family code) = Unit {0}
Inside P (list l) = P (spelling l) l

head_bytes_lem : (f : Field) → field_bytes f ≡ head_bytes (head_of f)
unfolding field_bytes
head_bytes_lem empty = refl
head_bytes_lem (symbol family code) = refl
head_bytes_lem (list l) = refl

-- no field of a plain item must be a list
kind_held : (kind : Kind) (z f : Field) → PlainKind kind z → IsHeld (holds_list kind) f
kind_held (Scripted (Atom class limits)) z f h = tt
kind_held (Scripted Over) z f h = tt
kind_held (Scripted Under) z f h = tt
kind_held (Scripted (Root sign)) z f h = tt
kind_held (Scripted (Fence left right)) z f h = absurd h
kind_held (Fraction bar) z f h = tt

module _ (P : Says) where
  field_is : (f : Field) (s : List ℕ) → Inside P f → FieldIs P (field_spelling f ++ s) (head_of f) f
  unfolding field_spelling
  field_is empty s h = refl
  field_is (symbol family code) s h = refl
  field_is (list l) s h =
      let n = items_bytes l in
      let behind = drop_at (list_opening n) (spelling l ++ s) (list_opening_bytes n) (opening_length n) in
      (l, rw (append_assoc, behind, take_at (spelling l) s n (spelling_length l)) h, refl)

  -- a field that stands at a place, with r behind it
  field_at : (f : Field) (s : List ℕ) (at : ℕ) (r : List ℕ) → drop at s ≡ field_spelling f ++ r → PlainField f → field_bytes f < word_range →
      Inside P f → FieldAtIs P s at f × (drop (field_end s at) s ≡ r)
  field_at f s at r e plain small inside =
      let q = field_spelling f ++ r in
      let head = field_head_lem f r plain small in
      let is : FieldIs P q (field_head q) f = rw head (field_is f r inside) in
      let behind : drop (head_bytes (field_head q)) q ≡ r =
      rw head (drop_at (field_spelling f) r (head_bytes (head_of f)) (field_length f ∙ head_bytes_lem f)) in
      (rw e is, sym (drop-drop (head_bytes (head_at s at)) at s) ∙ rw e behind)

  -- and an item's third field, if it has one
  third_at_lem : (kind : Kind) (f : Field) (s : List ℕ) (at : ℕ) (r : List ℕ) → drop at s ≡ third_spelling kind (field_spelling f) ++ r →
      PlainKind kind f → PlainField f → third_bytes kind (field_bytes f) < word_range → Inside P f →
      ThirdIs P s (has_third kind) at f × (drop (third_end s (has_third kind) at) s ≡ r)
  third_at_lem (Scripted base) f s at r e k plain small inside = field_at f s at r e plain small inside
  third_at_lem (Fraction bar) f s at r e k plain small inside = (k, e)

  noad_is : (kind : Kind) (x y z : Field) (r : List ℕ) → PlainItem (noad kind x y z) → item_bytes (noad kind x y z) < word_range →
      Inside P x → Inside P y → Inside P z →
      let s = item_spelling (noad kind x y z) ++ r in
      NoadIs P s kind (noad kind x y z) × (drop (end s kind) s ≡ r)
  unfolding item_spelling PlainItem item_bytes
  noad_is kind x y z r plain small p q t =
      let last = third_spelling kind (field_spelling z) ++ r in
      let s = item_spelling (noad kind x y z) ++ r in
      let regrouped : s ≡ kind_spelling kind ++ (field_spelling x ++ (field_spelling y ++ last)) = simp append_assoc in
      let fields : drop (opening_bytes kind) s ≡ field_spelling x ++ (field_spelling y ++ last) =
      rw regrouped (drop_at (kind_spelling kind) _ (opening_bytes kind) (kind_length kind)) in
      let a = field_at x s (opening_bytes kind) (field_spelling y ++ last) fields plain.1 (omega arith) p in
      let b = field_at y s (second s kind) last a.1 plain.2 (omega arith) q in
      let c = third_at_lem kind z s (third s kind) r b.1 plain.0 plain.3 (omega arith) t in
      (record { a = x; b = y; c = z; a_is = a.0; b_is = b.0; c_is = c.0; held = kind_held kind z x plain.0; is = refl }, c.1)

  abbrev InsideItem : Item → Type 0
  InsideItem (noad kind x y z) = Inside P x × Inside P y × Inside P z
  InsideItem (kern n) = Unit {0}
  InsideItem (restyle n) = Unit {0}
  InsideItem (choice d t sc ss) = Unit {0}

  item_is : (i : Item) (r : List ℕ) → PlainItem i → item_bytes i < word_range → InsideItem i →
      let s = item_spelling i ++ r in
      ItemIs P s (opening_of s) i × (drop (item_size s (opening_of s)) s ≡ r)
  unfolding item_spelling PlainItem
  item_is (noad kind x y z) r plain small inside =
      let s = item_spelling (noad kind x y z) ++ r in
      let opens : opening_of s ≡ Fields kind = rw append_assoc (kind_opens kind z _ plain.0) in
      rw opens (noad_is kind x y z r plain small inside.0 inside.1 inside.2)
  item_is (kern n) r plain small inside = absurd plain
  item_is (restyle n) r plain small inside = absurd plain
  item_is (choice d t sc ss) r plain small inside = absurd plain

-- ---- a plain list reads as itself

-- a fraction has no third field
third_small : (kind : Kind) (f : Field) → PlainKind kind f → third_bytes kind (field_bytes f) < word_range → field_bytes f < word_range
unfolding field_bytes
third_small (Scripted base) f h small = small
third_small (Fraction bar) f h small = rw h (omega arith)

-- an item has bytes
item_some : (i : Item) → 0 < item_bytes i
unfolding item_bytes
item_some (noad kind x y z) = omega (arith, opening-two kind)
item_some (kern n) = omega arith
item_some (restyle n) = omega arith
item_some (choice d t sc ss) = omega arith

mutual
  unfolding spelling Plain items_within items_bytes

  pub spelling_reads : (l : Items) (levels : ℕ) → Plain l → items_bytes l < word_range → items_within l levels ≡ true →
      read levels (spelling l) ≡ good l
  spelling_reads nil levels plain small within = read_none long_format levels [] refl
  spelling_reads (cons i r) levels plain small within =
      let s = spelling (cons i r) in
      let both = (and-eq-true_iff (item_within i levels) (items_within r levels)).0 within in
      let inside = item_inside i levels plain.0 (omega arith) both.0 in
      let first = item_is (Below read levels) i (spelling r) plain.0 (omega arith) inside in
      let others = spelling_reads r levels plain.1 (omega arith) both.1 in
      good_list levels s (cons i r) (omega (arith, spelling_length (cons i r), item_some i)) (record {
        first = i;
        others = r;
        first_is = first.0;
        others_are = ap (read levels) first.1 ∙ others;
        is = refl;
      })

  item_inside : (i : Item) (levels : ℕ) → PlainItem i → item_bytes i < word_range → item_within i levels ≡ true →
      InsideItem (Below read levels) i
  item_inside (noad kind x y z) levels plain small within =
      let a = (and-eq-true_iff (field_within x levels && field_within y levels) (field_within z levels)).0 within in
      let b = (and-eq-true_iff (field_within x levels) (field_within y levels)).0 a.0 in (
        field_inside x levels plain.1 (omega arith) b.0,
        field_inside y levels plain.2 (omega arith) b.1,
        field_inside z levels plain.3 (third_small kind z plain.0 (omega arith)) a.1,
      )
  item_inside (kern n) levels plain small within = tt
  item_inside (restyle n) levels plain small within = tt
  item_inside (choice d t sc ss) levels plain small within = tt

  field_inside : (f : Field) (levels : ℕ) → PlainField f → field_bytes f < word_range → field_within f levels ≡ true →
      Inside (Below read levels) f
  field_inside empty levels plain small within = tt
  field_inside (symbol family code) levels plain small within = tt
  field_inside (list l) zero plain small within = let z : ◌≡◌ {A = ℕ} 0 1 = cc in absurd (omega arith)
  field_inside (list l) (suc levels) plain small within = spelling_reads l levels plain (omega arith) within

-- ---- a list that reads is within its levels

-- of the list of a field
InnerWithin : ℕ → Says
InnerWithin levels r l = deeper (λ n. items_within l n) levels ≡ true

module _ (levels : ℕ) where
  field_within_lem : (s : List ℕ) (h : FieldHead) (f : Field) → FieldIs (InnerWithin levels) s h f → field_within f levels ≡ true
  unfolding field_within InnerWithin
  field_within_lem s NoField f i = absurd i
  field_within_lem s Empty f i = rw i
  field_within_lem s (Symbol family code) f i = rw i
  field_within_lem s (Sublist opening n) f i = rw i.2 i.1
  field_within_lem s CutSublist f i = absurd i

  module _ (s : List ℕ) where
    third_within : (has : Bool) (at : ℕ) (f : Field) → ThirdIs (InnerWithin levels) s has at f → field_within f levels ≡ true
    unfolding field_within
    third_within true at f i = field_within_lem (drop at s) (head_at s at) f i
    third_within false at f i = rw i

    item_within_lem : (o : Opening) (i : Item) → ItemIs (InnerWithin levels) s o i → item_within i levels ≡ true
    unfolding item_within
    item_within_lem NoItem i h = absurd h
    item_within_lem (Fields kind) i h =
        let a = field_within_lem (drop (opening_bytes kind) s) (head_at s (opening_bytes kind)) h.a h.a_is in
        let b = field_within_lem (drop (second s kind) s) (head_at s (second s kind)) h.b h.b_is in
        let c = third_within (has_third kind) (third s kind) h.c h.c_is in
        rw (h.is, a, b, c)
    item_within_lem (Kern n) i h = rw h
    item_within_lem (Restyle n) i h = rw h
    item_within_lem Choice i h =
        let each : (n : ℕ) → n < choice_lists → field_within (list (h.lists n)) levels ≡ true =
        λ n l. field_within_lem (drop (list_place s n) s) (head_at s (list_place s n)) (list (h.lists n)) (h.are n l) in
        rw (h.is, each 0 (omega arith), each 1 (omega arith), each 2 (omega arith), each 3 (omega arith))

ReadWithin : List ℕ → Type 0
ReadWithin s = (levels : ℕ) (l : Items) → read levels s ≡ good l → items_within l levels ≡ true

within_step : (s : List ℕ) → ((r : List ℕ) → length r < length s → ReadWithin r) → ReadWithin s
unfolding ReadWithin InnerWithin items_within
within_step s ih levels l e = go (length s) refl
  where
    below : (levels : ℕ) (r : List ℕ) (l : Items) → length r < length s → Below read levels r l → InnerWithin levels r l
    below zero r l k b = absurd b
    below (suc levels) r l k b = ih r k levels l b

    go : (n : ℕ) → length s ≡ n → items_within l levels ≡ true
    go zero z = let none : l ≡ nil = cc (read_none long_format levels s z) in rw none
    go (suc n) z =
        let g = list_good levels s l (omega arith) e in
        let o = opening_of s in
        let rest = drop (item_size s o) s in
        let some = size_some (Below read levels) s o g.first g.first_is in
        let shorter : length rest < length s = omega (arith, length-drop (item_size s o) s) in
        let first = item_within_lem levels s o g.first
        (item_map (Below read levels) (InnerWithin levels) s (below levels) o g.first g.first_is) in
        let others = ih rest shorter levels g.others g.others_are in
        rw (g.is, first, others)

pub read_within : (s : List ℕ) (levels : ℕ) (l : Items) → read levels s ≡ good l → items_within l levels ≡ true
unfolding ReadWithin
read_within = by_length ReadWithin within_step

-- ---- formulas

fits_so : (l : Items) → fits_formula l ≡ true → (items_bytes l ≤ formula_limit) × (items_within l (depth_limit - 1) ≡ true)
unfolding fits_formula
fits_so l e =
    let both = (and-eq-true_iff (leb (items_bytes l) formula_limit) (items_within l (depth_limit - 1))).0 e in
    (leb-true (items_bytes l) formula_limit both.0, both.1)

pub made_short : (l : Items) → fits_formula l ≡ true → length (spelling l) ≤ formula_limit
made_short l fits = omega (arith, spelling_length l, (fits_so l fits).0)

pub made_reads : (l : Items) → fits_formula l ≡ true → Plain l → read_formula (spelling l) ≡ good l
made_reads l fits plain =
    let so = fits_so l fits in
    so_reads long_format (spelling l) l (made_short l fits) (spelling_reads l (depth_limit - 1) plain (omega arith) so.1)

pub formula_fits : (s : List ℕ) (l : Items) → read_formula s ≡ good l → fits_formula l ≡ true
unfolding fits_formula
formula_fits s l e =
    let so = reads_so long_format s l e in
    let long : items_bytes l ≡ length s = ap items_bytes (sym (tree_is s _ l so.1)) ∙ items_bytes_lem s (readable_of s _ l so.1) in
    (and-eq-true_iff (leb (items_bytes l) formula_limit) (items_within l (depth_limit - 1))).1
    (le-leb (items_bytes l) formula_limit (omega (arith, so.0)), read_within s (depth_limit - 1) l so.1)
