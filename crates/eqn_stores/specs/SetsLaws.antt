-- Runs of stores. They are total: what has no room is passed over.
--     sets_append              two runs, one behind the other
--     place_two, place_three, place_four     the places of stores one after the other
--     sets_apart               runs that do not meet, in either order
--     sets_behind              a run in front of one that has been stored
--     sets_over                a run over one that has been stored
--     sets_out                 a run behind the end
--     move_start, move_one     a run that is moved on, the last first
--     sets_more                one store more of a run
--     sets_moved               a run in front of one that has been stored and moved on
--     sets_copied              a run copied to another place, as far as it has room
-- Each follows along the run, from the laws of a single store.
-- Assumes nothing.
use Rattle.std.specs.Prelude.{◌≡◌, refl, List, [], ◌∷◌, ◌++◌, ℕ, zero, suc, ◌+◌, ◌-◌, ◌<◌, ◌≤◌}
use Rattle.std.proofs.Common.{sym, ap, append_assoc, take-take, ◌∙◌, arith, set-set, get_or-set_other, get_or-take, get_or-drop, drop-cons}
use Rattle.std.proofs.Math.Decide.{dec_lt}
use lib.ListN.{length, take, drop, set, get_or, length-set, length-take, length-drop, drop_of_length-le}
use Rattle.std.proofs.lemmas.List.Edits.{sets, sets-eq}
use Rattle.std.proofs.Math.Seq.{length-sets, set_out, take-nil, drop-nil}
use Rattle.std.proofs.lemmas.List.{set_comm, take_more}
use Rattle.std.proofs.Math.Seq.{paste}
use Rattle.std.proofs.Math.Logic.{◌⊎◌, ⊎_elim}

pub sets_append : (o : List ℕ) (at : ℕ) (a b : List ℕ) {e : ℕ} → e ≡ at + length a → sets (sets o at a) e b ≡ sets o at (a ++ b)
sets_append o at [] b {e} is = let same : e ≡ at = omega arith in rw same
sets_append o at (x ∷ a) b is = sets_append (set o at x) (suc at) a b (omega arith)

-- one store more, for a loop over a run
pub sets_more : (o : List ℕ) (at : ℕ) (b : List ℕ) (i : ℕ) → i < length b → set (sets o at (take i b)) (at + i) (get_or b i 0) ≡ sets o at (take (i + 1) b)
sets_more o at b i l =
    let long : at + i ≡ at + length (take i b) = omega (arith, length-take i b) in
    sets_append o at (take i b) (get_or b i 0 ∷ []) long ∙ ap (λ (c : List ℕ). sets o at c) (sym (take_more b i 0 l))

-- the places behind one
pub place_two : (k : ℕ) → k + 2 ≡ suc (suc k)
place_two k = omega arith

pub place_three : (k : ℕ) → k + 3 ≡ suc (suc (suc k))
place_three k = omega arith

pub place_four : (k : ℕ) → k + 4 ≡ suc (suc (suc (suc k)))
place_four k = omega arith

-- ---- runs that do not meet

set_before : (o : List ℕ) (i : ℕ) (x : ℕ) (j : ℕ) (c : List ℕ) → i < j → sets (set o i x) j c ≡ set (sets o j c) i x
set_before o i x j [] l = refl
set_before o i x j (y ∷ c) l = rw (set_comm o i j x y (λ e. omega arith)) (set_before (set o j y) i x (suc j) c (omega arith))

pub sets_apart : (o : List ℕ) (i : ℕ) (h : List ℕ) (j : ℕ) (c : List ℕ) → i + length h ≤ j → sets (sets o j c) i h ≡ sets (sets o i h) j c
sets_apart o i [] j c l = refl
sets_apart o i (x ∷ h) j c l =
    rw (← set_before o i x j c (omega arith)) (sets_apart (set o i x) (suc i) h j c (omega arith))

pub sets_behind : (o : List ℕ) (at : ℕ) (h : List ℕ) (j : ℕ) (c : List ℕ) → j ≡ at + length h → sets (sets o j c) at h ≡ sets o at (h ++ c)
sets_behind o at h j c is = sets_apart o at h j c (omega arith) ∙ sets_append o at h c is

-- ---- a run over another

set_under : (o : List ℕ) (j x i : ℕ) (d : List ℕ) → i ≤ j → j < i + length d → sets (set o j x) i d ≡ sets o i d
set_under o j x i [] l m = absurd (omega arith)
set_under o j x i (y ∷ d) l m = go (dec_lt i j) (λ below. set_under (set o i y) j x (suc i) d below (omega arith))
  where
    go : Dec (i < j) → (i < j → sets (set (set o i y) j x) (suc i) d ≡ sets (set o i y) (suc i) d) →
        sets (set (set o j x) i y) (suc i) d ≡ sets (set o i y) (suc i) d
    go (yes below) rest = rw (set_comm o j i x y (λ e. omega arith)) (rest below)
    go (no same) rest = let is : j ≡ i = omega arith in rw (is, set-set)

pub sets_over : (o : List ℕ) (j : ℕ) (c : List ℕ) (i : ℕ) (d : List ℕ) → i ≤ j → j + length c ≤ i + length d →
    sets (sets o j c) i d ≡ sets o i d
sets_over o j [] i d l m = refl
sets_over o j (x ∷ c) i d l m = sets_over (set o j x) (suc j) c i d (omega arith) (omega arith) ∙ set_under o j x i d l (omega arith)

-- ---- what has no room

pub sets_out : (o : List ℕ) (i : ℕ) (c : List ℕ) → length o ≤ i → sets o i c ≡ o
sets_out o i [] l = refl
sets_out o i (x ∷ c) l = rw (set_out o i x l) (sets_out o (suc i) c (omega arith))

-- as much of a run as has room
sets_room : (o : List ℕ) (i : ℕ) (c : List ℕ) (k : ℕ) → length o ≤ i + k → sets o i (take k c) ≡ sets o i c
sets_room o i c zero l = sym (sets_out o i c (omega arith))
sets_room o i [] (suc k) l = refl
sets_room o i (x ∷ c) (suc k) l = sets_room (set o i x) (suc i) c k (omega (arith, length-set o i x))

sets_cons : (y : ℕ) (o : List ℕ) (i : ℕ) (c : List ℕ) → sets (y ∷ o) (suc i) c ≡ y ∷ sets o i c
sets_cons y o i [] = refl
sets_cons y o i (x ∷ c) = sets_cons y (set o i x) (suc i) c

sets_nil : (i : ℕ) (c : List ℕ) → sets [] i c ≡ []
sets_nil i c = sets_out [] i c (omega arith)

-- what has been stored, as far as it had room
sets_read : (o : List ℕ) (i : ℕ) (c : List ℕ) → take (length c) (drop i (sets o i c)) ≡ take (length o - i) c
sets_read [] i c = let nothing : 0 - i ≡ 0 = omega arith in rw (sets_nil, drop-nil, take-nil, nothing)
sets_read (y ∷ o) zero [] = sym (take-nil (suc (length o) - 0))
sets_read (y ∷ o) zero (x ∷ c) =
    let size : suc (length o) - 0 ≡ suc (length o - 0) = omega arith in
    rw size (ap (λ (b : List ℕ). take (suc (length c)) b) (sets_cons x o zero c) ∙ ap (λ (r : List ℕ). x ∷ r) (sets_read o zero c))
sets_read (y ∷ o) (suc i) c = let size : suc (length o) - suc i ≡ length o - i = omega arith in rw (sets_cons, size) (sets_read o i c)

-- ---- a run that is moved on

-- by k places, of which those from `left` on have been moved
module _ (o : List ℕ) (start k n : ℕ) where
  abbrev pub run : List ℕ
  run = take n (drop start o)

  abbrev pub moved : ℕ → List ℕ
  moved left = sets o (start + left + k) (drop left run)

  pub moved_length : (left : ℕ) → length (moved left) ≡ length o
  moved_length left = length-sets o (start + left + k) (drop left run)

  pub move_start : moved n ≡ o
  move_start = rw (drop_of_length-le run {i = n} (omega (arith, length-take n (drop start o))))

  -- a place that has no room
  pub move_out : (left less : ℕ) → less < left → length o ≤ start + less + k → moved left ≡ moved less
  move_out left less l out =
      sets_out o (start + left + k) (drop left run) (omega arith) ∙ sym (sets_out o (start + less + k) (drop less run) out)

  -- what is moved next stands where it stood
  unmoved : (i j : ℕ) (b : List ℕ) (c : List ℕ) → i < j → get_or (sets b j c) i 0 ≡ get_or b i 0
  unmoved i j b [] l = refl
  unmoved i j b (x ∷ c) l = unmoved i (suc j) (set b j x) c (omega arith) ∙ get_or-set_other b j i x 0 (λ e. omega arith)

  pub move_one : (left less : ℕ) → left ≡ suc less → less < n → start + less < length o → 0 < k →
      set (moved left) (start + less + k) (get_or (moved left) (start + less) 0) ≡ moved less
  move_one left less is l m some =
      let v = get_or o (start + less) 0 in
      let stands : get_or (moved left) (start + less) 0 ≡ v = unmoved (start + less) (start + left + k) o (drop left run) (omega arith) in
      let within : less < length run = omega (arith, length-take n (drop start o), length-drop start o) in
      let first : get_or run less 0 ≡ v = get_or-take n (drop start o) less 0 l ∙ get_or-drop start o less 0 in
      let next : start + left + k ≡ suc (start + less + k) = omega arith in
      rw
      (stands, ← set_before o (start + less + k) v (start + left + k) (drop left run) (omega arith), drop-cons run less 0 within, first, next, is)

-- ---- a run in front of one that has been stored and moved on

pub sets_moved : (o : List ℕ) (at : ℕ) (h : List ℕ) (i j : ℕ) (c : List ℕ) → at ≤ i → i ≤ j → j ≡ at + length h →
    let b = sets o i c in
    sets (sets b j (take (length c) (drop i b))) at h ≡ sets o at (h ++ c)
sets_moved o at h i j c l m is =
    let b = sets o i c in
    rw (sets_read o i c, sets_room b j c (length o - i) (omega (arith, length-sets o i c)))
    (sets_behind b at h j c is ∙ sets_over o i c at (h ++ c) l (omega (arith, lib.ListN.length-append h c)))

-- k bytes of s are copied, and the others have no room
pub sets_copied : (o : List ℕ) (at : ℕ) (s : List ℕ) (n k : ℕ) → at + k ≤ length o → k ≤ length s → (k ≡ n ⊎ ((k ≤ n) × (length o ≤ at + k))) →
    paste o at s k ≡ sets o at (take n s)
sets_copied o at s n k room some last =
    let long : length (take k s) ≡ k = omega (arith, length-take k s) in
    let copied : paste o at s k ≡ sets o at (take k s) = rw (sets-eq (take k s) o at (omega (arith, long)), long, append_assoc) in
    ⊎_elim (λ e. copied ∙ ap (λ (j : ℕ). sets o at (take j s)) e)
    (λ f.
    let nested : take k (take n s) ≡ take k s = take-take k n s f.0 in
    copied ∙ ap (λ (c : List ℕ). sets o at c) (sym nested) ∙ sets_room o at (take n s) k f.1)
    last
