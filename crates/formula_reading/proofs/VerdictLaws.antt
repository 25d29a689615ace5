-- What the reader says of a reading, by the reading's own steps.
--     later, verdict_step     a list: what its first item says, and then what the rest says
--     fault_in, next_in       a fault's place lies in the list, and a part that is read ends in it, behind its start (`ReadIn`)
--     field_step ..           a field, by its head; `noad_first` .. an item, by its fields
--     held_yes, held_no, held_any, held_list     a field that may have to be a list, by the test of its kind
--     choice_said, in_turn     a choice says what its lists say in turn
--     list_next ..            a turn of the loop over a list's items
-- Assumes nothing.
use mathlib.Core.Path.{◌≡◌, refl, sym, subst, ap, ◌∙◌}
use mathlib.Core.Bool.{Bool, true, false}
use mathlib.Core.List.{List}
use Rattle.std.specs.Prelude.{Result, Ok, Err}
use Prim.Native.Nat.{ℕ, zero, suc, ◌+◌, ◌-◌, ◌≤◌, ◌<◌}
use native.Mathlib.Omega.{arith}
use lib.ListN.{length, take, drop, length-drop}
use lib.Seq.{drop-drop}
use Rattle.formula.specs.declared.Kind.{Kind}
use Rattle.formula.specs.declared.Kind.TheVariants.{Scripted, Fraction}
use Rattle.formula.specs.declared.Opening.{Opening}
use Rattle.formula.specs.declared.FieldHead.{FieldHead}
use Rattle.formula.specs.declared.FieldHead.TheVariants.{NoField, Empty, Symbol, Sublist, CutSublist}
use Rattle.formula.specs.declared.Fault.TheVariants.{Unreadable, TooDeep}
use Rattle.formula.specs.declared.FaultAt.{FaultAt}
use Rattle.formula.specs.Format.{long_format}
use Rattle.formula.specs.Tree.{Item, Field, noad, empty, symbol, list, opening_bytes, holds_list, choice_opening_bytes}
use Rattle.formula.specs.Heads.{opening_of, field_head, is_list}
use Rattle.formula.specs.Reading.{Read, good, fault, Got, got, stopped, ◌then_at◌, list_got, field_by, only_list, held_in, field_at, first_at, third_at, noad_at, list_at, choice_at, opened_by, item_by, before, rest_by, read}
use Rattle.formula.specs.Values.{fault_at, told}
use Rattle.formula_reading.specs.Values.{part_read_of}
use Rattle.formula.specs.Places.{head_bytes, contents, choice_lists, has_third}
use Rattle.formula.specs.Slices.{tail_part, field_part_lem}
use Rattle.formula.specs.HeadLaws.{head_fits, opening_some}
use Rattle.formula.specs.ReadIn.{ReadClaims, Closed, ReadIn, GotIn, read_in, field_in_lem, item_in}
use Rattle.formula.specs.ReadingLaws.{read_none, read_some}

-- ---- a list

-- a list has no value, a part the place behind it
abbrev pub Whole : Type 0
Whole = Result (Unit {0}) FaultAt

abbrev pub Part : Type 0
Part = Result ℕ FaultAt

abbrev pub later_by : ℕ → FaultAt → FaultAt
later_by k e = fault_at e.fault (k + e.place)

abbrev pub later : ℕ → Whole → Whole
later k (Ok u) = Ok u
later k (Err e) = Err (later_by k e)

abbrev go_on : ℕ → List ℕ → Part → Whole
go_on levels s (Ok k) = later k (told (read levels (drop k s)))
go_on levels s (Err e) = Err e

told_before : (i : Item) (size : ℕ) (x : Read) → told (before i size x) ≡ later size (told x)
unfolding told before
told_before i size (good l) = refl
told_before i size (fault why place) = refl

verdict_step : (levels : ℕ) (s : List ℕ) → 0 < length s →
    told (read levels s) ≡ go_on levels s (part_read_of (item_by long_format read levels s))
unfolding told part_read_of rest_by
verdict_step levels s pos = ap told (read_some long_format levels s pos) ∙ go (item_by long_format read levels s)
  where
    go : (g : Got Item) → told (rest_by read levels s g) ≡ go_on levels s (part_read_of g)
    go (got i size) = told_before i size (read levels (drop size s))
    go (stopped why place) = refl

-- ---- places lie in the list

-- from lo on, and up to hi
abbrev pub StepIn : ℕ → ℕ → Part → Type 0
StepIn lo hi (Ok k) = (lo < k) × (k ≤ hi)
StepIn lo hi (Err e) = e.place ≤ hi

-- that an item and a field end behind their start
abbrev ends : ReadClaims
ends =
    record {
      OfItems = λ n l. Unit {0};
      OfItem = λ n i. 0 < n;
      OfField = λ at end f. at < end;
      OfThird = λ kind at end f. at ≤ end;
    }

ends_so : Closed ends
ends_so =
    record {
      empty_is = λ at. omega arith;
      symbol_is = λ at family code. omega arith;
      list_is = λ at n l h. omega (arith, opening_some n);
      third_is = λ base at end f h. omega arith;
      no_third = λ bar at. omega arith;
      noad_is = λ kind x y z m₁ m₂ m₃ a b c. omega arith;
      kern_is = λ n. omega arith;
      restyle_is = λ n. omega arith;
      choice_is = λ d t sc ss m₁ m₂ m₃ m₄ a b c e. omega arith;
      nil_is = tt;
      cons_is = λ size n i l a b. tt;
    }

step_in : {A : Type 0} (lo hi : ℕ) (g : Got A) → GotIn (λ a m. lo < m) hi g → StepIn lo hi (part_read_of g)
unfolding part_read_of
step_in lo hi (got a m) h = h
step_in lo hi (stopped why place) h = h

item_bound : (s : List ℕ) (levels : ℕ) → StepIn 0 (length s) (part_read_of (item_by long_format read levels s))
item_bound s levels = step_in 0 (length s) (item_by long_format read levels s) (item_in ends ends_so levels s)

pub fault_in : (s : List ℕ) (levels : ℕ) (e : FaultAt) → told (read levels s) ≡ Err e → e.place ≤ length s
unfolding told
fault_in s levels e is = go (read levels s) (read_in ends ends_so levels s) is
  where
    go : (x : Read) → ReadIn ends (length s) x → told x ≡ Err e → e.place ≤ length s
    go (good l) h is = let z : ◌≡◌ {A = ℕ} 0 1 = cc in absurd (omega arith)
    go (fault n q) h is =
        let same : fault_at n q ≡ e = cc in
        omega (arith, ap (λ (e : FaultAt). e.place) same)

pub next_in : (s : List ℕ) (levels at m : ℕ) → at ≤ length s → part_read_of (field_at long_format read levels s at) ≡ Ok m → m ≤ length s
next_in s levels at m l e =
    let g = field_at long_format read levels s at in
    let b : StepIn at (length s) (Ok m) =
    subst (StepIn at (length s)) e (step_in at (length s) g (field_in_lem ends ends_so levels s at l)) in
    b.1

-- ---- a field, by its head

-- what n bytes of a list that start at a place of their item say of the field
abbrev pub inside : ℕ → ℕ → Whole → Part
inside start n (Ok u) = Ok (start + n)
inside start n (Err e) = Err (later_by start e)

told_inside : (at opening n : ℕ) (x : Read) → part_read_of (list_got at opening n x) ≡ inside (at + opening) n (told x)
unfolding told part_read_of list_got
told_inside at opening n (good l) = refl
told_inside at opening n (fault why place) = refl

module _ (levels at : ℕ) (s : List ℕ) where
  -- the bytes that the code's `&s[at..]` holds
  abbrev rest : List ℕ
  rest = take (length s - at) (drop at s)

  pub field_step : (h : FieldHead) → field_head rest ≡ h →
      part_read_of (field_at long_format read levels s at) ≡ part_read_of (field_by read levels at (drop at s) h)
  unfolding field_at
  field_step h e =
      ap (λ (h : FieldHead). part_read_of (field_by read levels at (drop at s) h)) (ap field_head (sym (tail_part s at)) ∙ e)

  pub field_fits_lem : (h : FieldHead) → field_head rest ≡ h → at ≤ length s → at + head_bytes h ≤ length s
  field_fits_lem h e l = omega (arith, head_fits (drop at s) h (ap field_head (sym (tail_part s at)) ∙ e), length-drop at s)

  pub field_deep : (opening n : ℕ) → field_head rest ≡ Sublist opening n → levels ≡ 0 →
      part_read_of (field_at long_format read levels s at) ≡ Err (fault_at TooDeep at)
  unfolding field_by part_read_of
  field_deep opening n e z = field_step (Sublist opening n) e ∙ ap (λ (d : ℕ). part_read_of (field_by read d at (drop at s) (Sublist opening n))) z

  pub cut_deep : field_head rest ≡ CutSublist → levels ≡ 0 → part_read_of (field_at long_format read levels s at) ≡ Err (fault_at TooDeep at)
  unfolding field_by part_read_of
  cut_deep e z = field_step CutSublist e ∙ ap (λ (d : ℕ). part_read_of (field_by read d at (drop at s) CutSublist)) z

  pub cut_short : field_head rest ≡ CutSublist → 0 < levels → part_read_of (field_at long_format read levels s at) ≡ Err (fault_at Unreadable 0)
  unfolding field_by part_read_of
  cut_short e pos = field_step CutSublist e ∙ go levels pos
    where
      go : (d : ℕ) → 0 < d → part_read_of (field_by read d at (drop at s) CutSublist) ≡ Err (fault_at Unreadable 0)
      go zero pos = absurd (omega arith)
      go (suc d) pos = refl

  pub field_list : (opening n : ℕ) (v : Whole) → field_head rest ≡ Sublist opening n → 0 < levels →
      let start = at + opening in
      told (read (levels - 1) (take (start + n - start) (drop start s))) ≡ v →
      part_read_of (field_at long_format read levels s at) ≡ inside start n v
  unfolding field_by part_read_of
  field_list opening n v e pos h = field_step (Sublist opening n) e ∙ go levels pos (rw field_part_lem at h)
    where
      go : (d : ℕ) → 0 < d → told (read (d - 1) (contents opening n (drop at s))) ≡ v →
          part_read_of (field_by read d at (drop at s) (Sublist opening n)) ≡ inside (at + opening) n v
      go zero pos h = absurd (omega arith)
      go (suc d) pos h =
          let e : suc d - 1 ≡ d = omega arith in
          told_inside at opening n (read d (contents opening n (drop at s))) ∙ ap (inside (at + opening) n) (rw e at h)

  -- ---- a field that must be a list

  list_yes : is_list (field_head rest) ≡ true → part_read_of (list_at long_format read levels s at) ≡ part_read_of (field_at long_format read levels s at)
  unfolding list_at field_at field_by list_got only_list part_read_of
  list_yes e = go levels (field_head (drop at s)) (rw tail_part at e)
    where
      read_so : (opening n : ℕ) (x : Read) → part_read_of (list_got at opening n x then_at only_list) ≡ part_read_of (list_got at opening n x)
      read_so opening n (good l) = refl
      read_so opening n (fault why place) = refl

      go : (d : ℕ) (h : FieldHead) → is_list h ≡ true →
          part_read_of (field_by read d at (drop at s) h then_at only_list) ≡ part_read_of (field_by read d at (drop at s) h)
      go d NoField e = let z : ◌≡◌ {A = ℕ} 0 1 = cc in absurd (omega arith)
      go d Empty e = let z : ◌≡◌ {A = ℕ} 0 1 = cc in absurd (omega arith)
      go d (Symbol family code) e = let z : ◌≡◌ {A = ℕ} 0 1 = cc in absurd (omega arith)
      go zero (Sublist opening n) e = refl
      go (suc d) (Sublist opening n) e = read_so opening n (read d (contents opening n (drop at s)))
      go zero CutSublist e = refl
      go (suc d) CutSublist e = refl

  list_no : is_list (field_head rest) ≡ false → part_read_of (list_at long_format read levels s at) ≡ Err (fault_at Unreadable 0)
  unfolding list_at field_at field_by only_list part_read_of
  list_no e = go (field_head (drop at s)) (rw tail_part at e)
    where
      go : (h : FieldHead) → is_list h ≡ false → part_read_of (field_by read levels at (drop at s) h then_at only_list) ≡ Err (fault_at Unreadable 0)
      go NoField e = refl
      go Empty e = refl
      go (Symbol family code) e = refl
      go (Sublist opening n) e = let z : ◌≡◌ {A = ℕ} 0 1 = cc in absurd (omega arith)
      go CutSublist e = let z : ◌≡◌ {A = ℕ} 0 1 = cc in absurd (omega arith)

-- ---- one part behind another

abbrev on_from : Part → (ℕ → Part) → Part
on_from (Ok m) k = k m
on_from (Err e) k = Err e

then_said : {A B : Type 0} (g : Got A) (k : A → ℕ → Got B) (k' : ℕ → Part) → ((a : A) (m : ℕ) → part_read_of (k a m) ≡ k' m) →
    part_read_of (g then_at k) ≡ on_from (part_read_of g) k'
unfolding part_read_of
then_said (got a m) k k' h = h a m
then_said (stopped why place) k k' h = refl

then_last : {A B : Type 0} (g : Got A) (k : A → B) → part_read_of (g then_at λ a m. got (k a) m) ≡ part_read_of g
unfolding part_read_of
then_last (got a m) k = refl
then_last (stopped why place) k = refl

-- ---- a field that may have to be a list

module _ (levels : ℕ) (s : List ℕ) where
  abbrev pub field_says : ℕ → Part
  field_says at = part_read_of (field_at long_format read levels s at)

  abbrev pub list_says : ℕ → Part
  list_says at = part_read_of (list_at long_format read levels s at)

  abbrev pub held_says : Bool → ℕ → Part
  held_says listed at = part_read_of (field_at long_format read levels s at then_at held_in listed)

  pub held_list : (at : ℕ) → held_says true at ≡ list_says at
  unfolding list_at held_in part_read_of
  held_list at = go (field_at long_format read levels s at)
    where
      go : (g : Got Field) → part_read_of (g then_at held_in true) ≡ part_read_of (g then_at only_list)
      go (got f m) = then_last (only_list f m) list
      go (stopped why place) = refl

  pub held_yes : (at : ℕ) (listed : Bool) → listed ≡ true → is_list (field_head (rest levels at s)) ≡ true → held_says listed at ≡ field_says at
  held_yes at true e test = held_list at ∙ list_yes levels at s test
  held_yes at false e test = let z : ◌≡◌ {A = ℕ} 0 1 = cc in absurd (omega arith)

  pub held_no : (at : ℕ) (listed : Bool) → listed ≡ true → is_list (field_head (rest levels at s)) ≡ false →
      held_says listed at ≡ Err (fault_at Unreadable 0)
  held_no at true e test = held_list at ∙ list_no levels at s test
  held_no at false e test = let z : ◌≡◌ {A = ℕ} 0 1 = cc in absurd (omega arith)

  pub held_any : (at : ℕ) (listed : Bool) → listed ≡ false → held_says listed at ≡ field_says at
  unfolding held_in
  held_any at true e = let z : ◌≡◌ {A = ℕ} 0 1 = cc in absurd (omega arith)
  held_any at false e = then_last (field_at long_format read levels s at) (λ f. f)

  pub held_next : (listed : Bool) (at m : ℕ) → at ≤ length s → held_says listed at ≡ Ok m → m ≤ length s
  unfolding held_in only_list part_read_of
  held_next listed at m l e = next_in s levels at m l (go listed (field_at long_format read levels s at) e)
    where
      go : (listed : Bool) (g : Got Field) → part_read_of (g then_at held_in listed) ≡ Ok m → part_read_of g ≡ Ok m
      go true (got empty k) e = let z : ◌≡◌ {A = ℕ} 0 1 = cc in absurd (omega arith)
      go true (got (symbol family code) k) e = let z : ◌≡◌ {A = ℕ} 0 1 = cc in absurd (omega arith)
      go true (got (list f) k) e = e
      go false (got f k) e = e
      go listed (stopped why place) e = e

-- ---- an item, by its fields

module _ (levels : ℕ) (s : List ℕ) where
  -- behind the second field: what the third says, if there is one
  abbrev pub last_says : Bool → ℕ → Part
  last_says true at = field_says levels s at
  last_says false at = Ok at

  third_said : (kind : Kind) (at : ℕ) → part_read_of (third_at long_format read levels s kind at) ≡ last_says (has_third kind) at
  unfolding third_at part_read_of
  third_said (Scripted base) at = refl
  third_said (Fraction bar) at = refl

  module _ (kind : Kind) where
    -- what the first field says
    abbrev pub first_says : Part
    first_says = held_says levels s (holds_list kind) (opening_bytes kind)

    noad_said : part_read_of (noad_at long_format read levels s kind) ≡
        on_from first_says (λ m. on_from (field_says levels s m) (last_says (has_third kind)))
    unfolding noad_at first_at
    noad_said =
        then_said (first_at long_format read levels s kind) _ _ (λ a m₁.
        then_said (field_at long_format read levels s m₁) _ _ (λ b m₂.
        then_last (third_at long_format read levels s kind m₂) (noad kind a b) ∙ third_said kind m₂))

    pub noad_first : (e : FaultAt) → first_says ≡ Err e → part_read_of (noad_at long_format read levels s kind) ≡ Err e
    noad_first e first = noad_said ∙ rw first

    module _ (m : ℕ) (first : first_says ≡ Ok m) where
      pub noad_second : (e : FaultAt) → field_says levels s m ≡ Err e → part_read_of (noad_at long_format read levels s kind) ≡ Err e
      noad_second e second = noad_said ∙ rw (first, second)

      pub noad_third : (e : ℕ) (has : Bool) → field_says levels s m ≡ Ok e → has_third kind ≡ has →
          part_read_of (noad_at long_format read levels s kind) ≡ last_says has e
      noad_third e has second h = noad_said ∙ rw (first, second, h)

-- ---- a choice, by its lists

-- what n parts say, one behind the other from a place on, where the part at each place says this
unfoldable pub in_turn : (ℕ → Part) → ℕ → ℕ → Part
in_turn says zero at = Ok at
in_turn says (suc n) at = on_from (says at) (in_turn says n)

pub choice_said : (levels : ℕ) (s : List ℕ) →
    part_read_of (choice_at long_format read levels s) ≡ in_turn (list_says levels s) choice_lists choice_opening_bytes
unfolding choice_at in_turn part_read_of
choice_said levels s =
    then_said (list_at long_format read levels s choice_opening_bytes) _ _ (λ d m₁.
    then_said (list_at long_format read levels s m₁) _ _ (λ t m₂.
    then_said (list_at long_format read levels s m₂) _ _ (λ sc m₃.
    then_said (list_at long_format read levels s m₃) _ _ (λ ss m₄. refl))))

-- n of them have spoken
module _ (says : ℕ → Part) (at n : ℕ) where
  pub turn_next : (m : ℕ) → n < choice_lists → says at ≡ Ok m → in_turn says (choice_lists - n) at ≡ in_turn says (choice_lists - (n + 1)) m
  unfolding in_turn
  turn_next m low e =
      let left : choice_lists - n ≡ suc (choice_lists - (n + 1)) = omega arith in
      ap (λ (k : ℕ). in_turn says k at) left ∙ ap (λ (x : Part). on_from x (in_turn says (choice_lists - (n + 1)))) e

  pub turn_stop : (e : FaultAt) → n < choice_lists → says at ≡ Err e → in_turn says (choice_lists - n) at ≡ Err e
  unfolding in_turn
  turn_stop e low is =
      let left : choice_lists - n ≡ suc (choice_lists - (n + 1)) = omega arith in
      ap (λ (k : ℕ). in_turn says k at) left ∙ ap (λ (x : Part). on_from x (in_turn says (choice_lists - (n + 1)))) is

  pub turn_done : choice_lists ≤ n → in_turn says (choice_lists - n) at ≡ Ok at
  unfolding in_turn
  turn_done h =
      let none : choice_lists - n ≡ 0 = omega arith in
      ap (λ (k : ℕ). in_turn says k at) none

pub item_step : (levels : ℕ) (s : List ℕ) (o : Opening) → opening_of s ≡ o →
    part_read_of (item_by long_format read levels s) ≡ part_read_of (opened_by long_format read levels s o)
unfolding item_by
item_step levels s o e = ap (λ (o : Opening). part_read_of (opened_by long_format read levels s o)) e

-- ---- a turn of the loop over a list's items

later_later : (k j : ℕ) (v : Whole) → later k (later j v) ≡ later (k + j) v
later_later k j (Ok u) = refl
later_later k j (Err e) = ap (λ (n : ℕ). Err (fault_at e.fault n)) (omega arith)

pub later_zero : (v : Whole) → later 0 v ≡ v
later_zero (Ok u) = refl
later_zero (Err e) =
    let own : 0 + e.place ≡ e.place = omega arith in
    ap (λ (n : ℕ). Err (fault_at e.fault n)) own

module _ (levels : ℕ) (s : List ℕ) (at : ℕ) (low : at < length s)
    (inv : told (read levels s) ≡ later at (told (read levels (drop at s)))) (x : Part)
    (said : x ≡ part_read_of (item_by long_format read levels (take (length s - at) (drop at s)))) where
  item_said : part_read_of (item_by long_format read levels (drop at s)) ≡ x
  item_said = sym (rw tail_part at said)

  item_bounds : StepIn 0 (length (drop at s)) x
  item_bounds = subst (StepIn 0 (length (drop at s))) item_said (item_bound (drop at s) levels)

  list_said : told (read levels s) ≡ later at (go_on levels (drop at s) x)
  list_said =
      let pos : 0 < length (drop at s) = omega (arith, length-drop at s) in
      inv ∙ ap (later at) (verdict_step levels (drop at s) pos ∙ ap (go_on levels (drop at s)) item_said)

  pub list_next : (k : ℕ) → x ≡ Ok k →
      (0 < k) × (at + k ≤ length s) × (told (read levels s) ≡ later (at + k) (told (read levels (drop (at + k) s))))
  list_next k e =
      let b : StepIn 0 (length (drop at s)) (Ok k) = subst (StepIn 0 (length (drop at s))) e item_bounds in
      let l : length (drop at s) ≡ length s - at = length-drop at s in (
        b.0,
        omega arith,
        list_said ∙ ap (λ (x : Part). later at (go_on levels (drop at s) x)) e
            ∙ later_later at k (told (read levels (drop k (drop at s))))
            ∙ ap (λ (r : List ℕ). later (at + k) (told (read levels r))) (drop-drop k at s),
      )

  pub list_stop : (e : FaultAt) → x ≡ Err e → (at + e.place ≤ length s) × (told (read levels s) ≡ Err (later_by at e))
  list_stop e is =
      let b : StepIn 0 (length (drop at s)) (Err e) = subst (StepIn 0 (length (drop at s))) is item_bounds in
      let l : length (drop at s) ≡ length s - at = length-drop at s in
      (omega arith, list_said ∙ ap (λ (x : Part). later at (go_on levels (drop at s) x)) is)

pub list_done : (levels : ℕ) (s : List ℕ) (at : ℕ) → length s ≤ at →
    told (read levels s) ≡ later at (told (read levels (drop at s))) → told (read levels s) ≡ Ok tt
unfolding told
list_done levels s at h inv =
    let none = read_none long_format levels (drop at s) (omega (arith, length-drop at s)) in
    inv ∙ ap (λ (x : Read). later at (told x)) none
