-- The slices that a text is cut into are those of the parts of its derivation.
--     CutInto, CutSlices, cut_slices     tokens before the last of a keyword, and an operand behind it, if there is one: their slices
--     front_size, inner_before, inner_size     where those slices lie
--     ThreeSlices               a text that is cut once more before that keyword
--     limited_slices, scripted_slices     an expression with its limits, and a word or a group with its scripts, which are cut so
--     single_slices, fraction_slices      fractions, which are cut once
--     split_none               whether there is a keyword
-- What a cut finds is known from the derivation by the laws of `SplitLaws`.
-- Assumes nothing.
use mathlib.Core.Path.{◌≡◌, refl, sym, ap, subst, ◌∙◌}
use mathlib.Core.Logic.{⊎_elim}
use mathlib.Core.List.{List, [], ◌∷◌, ◌++◌, append-nil}
use mathlib.Core.Option.{none, some}
use Prim.Native.Nat.{ℕ, zero, suc, ◌-◌, ◌<◌, ◌≤◌}
use native.Mathlib.Omega.{arith}
use lib.Dec.{eqb}
use lib.ListN.{length, take, drop}
use lib.Seq.{take-length, take-take, take-nil, drop-length, length-take-le}
use borrow.Author.Tests.{eq-eqb, ne_eqb}
use Rattle.laws.specs.Options.{none_some}
use Rattle.eqn_tokens.specs.Tokens.{Token, tokens_in}
use Rattle.eqn_tokens.specs.BytesLaws.{rest_lent}
use Rattle.eqn_grammar.proofs.ReadLaws.{single_tokens}
use Rattle.eqn_grammar.specs.Grammar.{limited, NoOvers, no_overs, some_overs, Overs, single, fraction, Scripted, scripted, NoPrimary, no_primary, some_primary, Primary, limited_tokens, limit_tokens, overs_tokens, scripted_tokens, script_tokens, primary_tokens}
use Rattle.eqn_grammar.specs.Splits.{last_outside}
use Rattle.eqn_grammar.specs.SplitLaws.{last_to, no_to, last_from_lem, no_from, last_over, no_over, last_sup, no_sup, last_sub, no_sub, limited_without_to, scripted_without_sup}
use Rattle.eqn_cuts.specs.declared.Split.{Split}
use Rattle.eqn_cuts.specs.Values.{Uncut, SplitAt}
use Rattle.eqn_read.specs.Values.{is_none, Stands}
use Rattle.eqn_read.proofs.MeantLaws.{as_overs}
use Rattle.eqn_tokens.specs.declared.tokens.Keyword.{Keyword}
use Rattle.eqn_tokens.specs.declared.tokens.Keyword.TheVariants.{Sub, Sup, Over, From, To}

-- a part in the middle
drop_take : (a b : ℕ) (s : List ℕ) → drop a (take b s) ≡ take (b - a) (drop a s)
drop_take zero b s = let whole : b - 0 ≡ b = omega arith in rw whole
drop_take (suc a) zero s = let nothing : 0 - suc a ≡ 0 = omega arith in rw nothing
drop_take (suc a) (suc b) [] = sym (take-nil (suc b - suc a))
drop_take (suc a) (suc b) (x ∷ s) = let less : suc b - suc a ≡ b - a = omega arith in rw less (drop_take a b s)

-- ---- one cut

abbrev pub CutInto : Keyword → List Token → List Token → NoOvers → Type 0
CutInto j ts before no_overs = (last_outside j ts ≡ none) × (before ≡ ts)
CutInto j ts before (some_overs o) = last_outside j ts ≡ some (before, overs_tokens o)

-- the place of the keyword, which is the end where there is none
abbrev pub Placed : NoOvers → ℕ → ℕ → Type 0
Placed no_overs start end = start ≡ end
Placed (some_overs o) start end = start < end

pub record CutSlices (s : List ℕ) (r : Split) (before : List Token) (n : NoOvers) : Type 0 where
  pub placed : Placed n r.start (length s)
  pub front : before ≡ tokens_in (take r.start s)
  pub behind : Stands n (drop r.end s)

module _ {s : List ℕ} {j : Keyword} {r : Split} (split : SplitAt s j r) where
  uncut_slices : (before : List Token) → before ≡ tokens_in s → Uncut s j r → CutSlices s r before no_overs
  uncut_slices before is uncut =
      let start = uncut.nowhere in
      let end : r.end ≡ length s = omega (arith, split.ordered, split.within, uncut.nowhere) in
      record { placed = start; front = rw (start, take-length) is; behind = rw (end, drop-length) }

  pub cut_slices : (before : List Token) (n : NoOvers) → CutInto j (tokens_in s) before n → CutSlices s r before n
  cut_slices before no_overs (nowhere, is) =
      ⊎_elim (λ cut. absurd (none_some (sym nowhere ∙ cut.parts))) (λ uncut. uncut_slices before is uncut) split.split
  cut_slices before (some_overs o) is =
      ⊎_elim
      (λ cut.
      let same : ◌≡◌ {A = List Token × List Token} (before, overs_tokens o) (tokens_in (take r.start s), tokens_in (drop r.end s)) =
      cc in
      record {
        placed = cut.there;
        front = ap (λ (p : List Token × List Token). p.0) same;
        behind = ap (λ (p : List Token × List Token). p.1) same;
      })
      (λ uncut. absurd (none_some (sym uncut.none_is ∙ is))) split.split

  pub front_size : r.start ≡ length (take r.start s)
  front_size = sym (length-take-le r.start s (omega (arith, split.ordered, split.within)))

-- ---- two cuts

-- a part of what stands before the last keyword is a part of the text
module _ {s : List ℕ} {j k : Keyword} {last first : Split} (at_last : SplitAt s j last) (at_first : SplitAt (take last.start s) k first) where
  pub inner_before : first.end ≤ last.start
  inner_before = omega (arith, at_first.within, front_size at_last)

  pub inner_size : first.start ≡ length (take first.start s)
  inner_size = sym (length-take-le first.start s (omega (arith, at_last.ordered, at_last.within, at_first.ordered, inner_before)))

pub record ThreeSlices (s : List ℕ) (last first : Split) (before : List Token) (m n : NoOvers) : Type 0 where
  pub end : Placed n last.start (length s)
  pub middle : Placed m first.start last.start
  pub front : before ≡ tokens_in (take first.start s)
  pub inner : Stands m (take (last.start - first.end) (drop first.end s))
  pub outer : Stands n (take (length s - last.end) (drop last.end s))

three_slices : {s : List ℕ} {j k : Keyword} {last first : Split} → SplitAt s j last → SplitAt (take last.start s) k first →
    (both before : List Token) (m n : NoOvers) → CutInto j (tokens_in s) both n → CutInto k both before m → ThreeSlices s last first before m n
three_slices {s} {j} {k} {last} {first} at_last at_first both before m n one two =
    let outer = cut_slices at_last both n one in
    let inner = cut_slices at_first before m (subst (λ (ts : List Token). CutInto k ts before m) outer.front two) in
    let long : length (take last.start s) ≡ last.start = length-take-le last.start s (omega (arith, at_last.ordered, at_last.within)) in
    record {
      end = outer.placed;
      middle = subst (λ (e : ℕ). Placed m first.start e) long inner.placed;
      front = inner.front ∙ ap tokens_in (take-take first.start last.start s (omega (arith, at_first.ordered, at_first.within)));
      inner = rw drop_take at inner.behind;
      outer = rw rest_lent outer.behind;
    }

-- ---- derivations

limited_to : (o : Overs) (f t : NoOvers) → CutInto To (limited_tokens (limited o f t)) (overs_tokens o ++ limit_tokens From f) t
limited_to o f no_overs = (no_to o f, sym (limited_without_to o f))
limited_to o f (some_overs t) = last_to o f t

limited_from : (o : Overs) (f : NoOvers) → CutInto From (overs_tokens o ++ limit_tokens From f) (overs_tokens o) f
unfolding limit_tokens
limited_from o no_overs = (no_from o, sym (append-nil (overs_tokens o)))
limited_from o (some_overs f) = last_from_lem o f

scripted_sup : (p : Primary) (b q : NoPrimary) →
    CutInto Sup (scripted_tokens (scripted p b q)) (primary_tokens p ++ script_tokens Sub b) (as_overs q)
scripted_sup p b no_primary = (no_sup p b, sym (scripted_without_sup p b))
scripted_sup p b (some_primary q) = rw single_tokens (last_sup p b q)

scripted_sub : (p : Primary) (b : NoPrimary) → CutInto Sub (primary_tokens p ++ script_tokens Sub b) (primary_tokens p) (as_overs b)
unfolding script_tokens
scripted_sub p no_primary = (no_sub p, sym (append-nil (primary_tokens p)))
scripted_sub p (some_primary b) = rw single_tokens (last_sub p b)

module _ {s : List ℕ} where
  pub limited_slices : {last first : Split} → SplitAt s To last → SplitAt (take last.start s) From first →
      (o : Overs) (f t : NoOvers) → limited_tokens (limited o f t) ≡ tokens_in s → ThreeSlices s last first (overs_tokens o) f t
  limited_slices at_to at_from o f t is =
      three_slices at_to at_from (overs_tokens o ++ limit_tokens From f) (overs_tokens o) f t (rw is at (limited_to o f t)) (limited_from o f)

  pub scripted_slices : {last first : Split} → SplitAt s Sup last → SplitAt (take last.start s) Sub first →
      (p : Primary) (b q : NoPrimary) → scripted_tokens (scripted p b q) ≡ tokens_in s →
      ThreeSlices s last first (primary_tokens p) (as_overs b) (as_overs q)
  scripted_slices at_sup at_sub p b q is =
      three_slices at_sup at_sub (primary_tokens p ++ script_tokens Sub b) (primary_tokens p) (as_overs b) (as_overs q)
      (rw is at (scripted_sup p b q)) (scripted_sub p b)

  pub single_slices : {r : Split} → SplitAt s Over r → (c : Scripted) → overs_tokens (single c) ≡ tokens_in s → r.start ≡ length s
  single_slices at-over c is = (cut_slices at-over (tokens_in s) no_overs (rw is at (no_over c), refl)).placed

  pub fraction_slices : {r : Split} → SplitAt s Over r → (o : Overs) (c : Scripted) → overs_tokens (fraction o c) ≡ tokens_in s →
      CutSlices s r (overs_tokens o) (some_overs (single c))
  unfolding overs_tokens
  fraction_slices at-over o c is = cut_slices at-over (overs_tokens o) (some_overs (single c)) (rw is at (last_over o c))

-- ---- whether there is a keyword

pub split_none : {s : List ℕ} {j : Keyword} {r : Split} → SplitAt s j r → eqb r.start (length s) ≡ is_none (last_outside j (tokens_in s))
split_none {s} {r = r} split =
    ⊎_elim (λ cut. rw (ne_eqb r.start (length s) (λ e. omega (arith, cut.there)), cut.parts))
    (λ uncut. rw (eq-eqb r.start (length s) uncut.nowhere, uncut.none_is)) split.split
