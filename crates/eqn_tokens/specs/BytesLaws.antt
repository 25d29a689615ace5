-- Laws of the bytes of typed text.
--     word_no_separator              a byte of a word is no separator
--     all_list                       `all_word_bytes` tests all
--     same_own, same_is, same_not    `same` tests whether two runs are equal
--     here, all_here, same_here      a run and what is tested of it, from a place on; for a loop over its bytes
--     rest_lent                      what is lent of a run from a place on
-- Assumes nothing.
use Rattle.std.specs.Prelude.{◌≡◌, refl, Bool, true, false, ◌&&◌, List, [], ◌∷◌, ℕ, ◌+◌, ◌-◌, ◌<◌, leb, eqb, length, take, drop, get_or}
use Rattle.std.proofs.lemmas.Bool.{false≢true}
use Rattle.std.proofs.Common.{ap, add-one, arith, leb-true, eq-eqb, ne_eqb, eqb-true, length-drop, drop-cons, take_all}
use Rattle.std.specs.List.{list_all}
use Rattle.laws.specs.Truths.{by_test, both_true, true_both}
use Rattle.eqn_tokens.specs.Bytes.{is_separator, is_word_byte, all_word_bytes, same}

-- ---- word bytes

pub word_no_separator : (b : ℕ) → is_word_byte b ≡ true → is_separator b ≡ false
word_no_separator b t =
    let inside = (both_true {p = leb 33 b && leb b 126} t).0 in
    let least = leb-true 33 b (both_true {p = leb 33 b} inside).0 in
    rw (ne_eqb b 9 (λ e. omega arith), ne_eqb b 10 (λ e. omega arith), ne_eqb b 32 (λ e. omega arith))

pub all_list : (s : List ℕ) → list_all is_word_byte s ≡ all_word_bytes s
unfolding all_word_bytes
all_list [] = refl
all_list (b ∷ s) = ap (λ (t : Bool). is_word_byte b && t) (all_list s)

-- ---- runs that are the same

pub same_own : (a : List ℕ) → same a a ≡ true
unfolding same
same_own [] = refl
same_own (c ∷ a) = true_both (eq-eqb c c refl) (same_own a)

pub same_is : (a b : List ℕ) → same a b ≡ true → a ≡ b
unfolding same
same_is [] [] t = refl
same_is [] (d ∷ b) t = absurd (false≢true t)
same_is (c ∷ a) [] t = absurd (false≢true t)
same_is (c ∷ a) (d ∷ b) t =
    let both = both_true {p = eqb c d} t in
    let first = eqb-true c d both.0 in
    let rest = same_is a b both.1 in
    cc

pub same_not : (a b : List ℕ) → (a ≡ b → ⊥) → same a b ≡ false
same_not a b differ = by_test (same a b) (λ e. absurd (differ (same_is a b e))) (λ e. e)

-- ---- from a place on

pub here : (s : List ℕ) (i : ℕ) → i < length s → drop i s ≡ get_or s i 0 ∷ drop (i + 1) s
here s i l = rw (add-one, drop-cons s i 0)

pub all_here : (s : List ℕ) (i : ℕ) → i < length s → all_word_bytes (drop i s) ≡ (is_word_byte (get_or s i 0) && all_word_bytes (drop (i + 1) s))
unfolding all_word_bytes
all_here s i l = rw (here s i l)

pub same_here : (a b : List ℕ) (i : ℕ) → i < length a → i < length b →
    same (drop i a) (drop i b) ≡ (eqb (get_or a i 0) (get_or b i 0) && same (drop (i + 1) a) (drop (i + 1) b))
unfolding same
same_here a b i l m = rw (here a i l, here b i m)

pub rest_lent : (i : ℕ) (s : List ℕ) → take (length s - i) (drop i s) ≡ drop i s
rest_lent i s = take_all (length s - i) (drop i s) (omega (arith, length-drop i s))
