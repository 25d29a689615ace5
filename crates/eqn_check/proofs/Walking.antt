-- A pass over a text, token by token.
--     Agrees             what is kept is what the reading of the grammar is at, as far as it is seen
--     Behind             the reading got stuck before, in a row that is unseen
--     Walking            a pass that has come to a place: one of the two
--     walking_begun, turn     its start, and what is known behind a token, which `Outcome` says by what the token does
--     Moving, moving     a token that the text goes on behind has bytes
-- Where the pass agrees with the reading it gets stuck at the same token, if it sees the row. If it does not see it, it may go on, and then
-- all places that it comes to are behind that one.
-- Assumes nothing.
use mathlib.Core.Path.{◌≡◌, refl, sym, ap, ◌∙◌, subst}
use mathlib.Core.Bool.{Bool, true, false, cond, ◌&&◌, false≢true}
use mathlib.Core.List.{List, [], ◌∷◌}
use mathlib.Core.Logic.{◌⊎◌, inl, inr, ⊎_elim}
use mathlib.Core.Option.{Option, none, some}
use Prim.Native.Nat.{ℕ, suc, ◌+◌, ◌-◌, ◌≤◌, ◌<◌, max}
use native.Mathlib.Omega.{arith}
use borrow.Author.Tests.{eq-eqb, ne_eqb, eqb-false}
use lib.Dec.{eqb}
use lib.ListN.{length, drop, take, get_or, set, length-set}
use lib.Seq.{get_or-set_same}
use Rattle.eqn_tokens.specs.Tokens.{Token, opening, closing, other, tokens_in}
use Rattle.eqn_tokens.specs.declared.tokens.TokenKind.{TokenKind}
use Rattle.eqn_tokens.specs.declared.tokens.TokenKind.TheVariants.{Word, Keyword as Joining, Open, Close, Other, End}
use Rattle.eqn_tokens.specs.declared.tokens.Token as code
use Rattle.eqn_tokens.specs.Values.{kind_as, token_then, HasBytes, TokenAt}
use Rattle.eqn_grammar.specs.Grammar.{Row, named, braced}
use Rattle.eqn_grammar.specs.Parsing.{Level, fresh, Reading, taking, joining, ended, on_level, out_of, read, begun, at_end}
use Rattle.std.specs.Prelude.{Ok, Err}
use Rattle.eqn_check.specs.Values.{Tested, stuck_at}
use Rattle.eqn_check.specs.declared.stages.Stage.{Stage}
use Rattle.eqn_check.specs.declared.stages.Stage.TheVariants.{Unseen}
use Rattle.eqn_check.specs.declared.stages.Step.{Step}
use Rattle.eqn_check.specs.declared.stages.Step.TheVariants.{Stuck, Whole, On, In, Out}
use Rattle.eqn_check.specs.Stages.{stage_of, seen_as, behind_primary, is_wanting, step_of}
use Rattle.eqn_check.proofs.StageLaws.{step_seen, is_none, stage_taking, primary_seen, stage_joining, keyword_steps, stage_ended}
use Rattle.eqn_check.specs.Windows.{levels, slot_of, is_seen, fresh_of, right_answer, fault_level, NotBefore, Passed}
use Rattle.eqn_check.proofs.Slots.{slot_small, Kept, kept_set}
use Rattle.eqn_check.proofs.Rest.{tested_from, Reads, reads_begun, reads_next, reads_stuck, reads_end}
use Rattle.eqn_tokens.specs.declared.tokens.Keyword.{Keyword}

-- ---- a pass at a place

pub record Agrees (s : List ℕ) (base : ℕ) (A : List Stage) (stage : Stage) (depth at : ℕ) (st : Reading) : Type 0 where
  pub reads : Reads s at st
  pub depth_is : depth ≡ length st.around
  pub stage_is : stage ≡ seen_as (is_seen base depth) (stage_of st.level)
  pub kept : Kept base A st.around

pub record Behind (s : List ℕ) (base deepest at : ℕ) : Type 0 where
  pub place : ℕ
  pub right_is : right_answer s ≡ stuck_at place
  pub before : place ≤ at
  pub hidden : is_seen base (fault_level s) ≡ false
  pub deep : fault_level s ≤ deepest

abbrev pub State : List ℕ → ℕ → List Stage → Stage → ℕ → ℕ → ℕ → Type 0
State s base A stage depth deepest at = ((st : Reading) × Agrees s base A stage depth at st) ⊎ Behind s base deepest at

pub record Walking (s : List ℕ) (base : ℕ) (A : List Stage) (stage : Stage) (depth deepest at : ℕ) : Type 0 where
  pub sized : length A ≡ suc levels
  pub inside : at ≤ length s
  pub deep : depth ≤ deepest
  pub low : deepest ≤ at
  pub state : State s base A stage depth deepest at

pub walking_begun : (s : List ℕ) (base : ℕ) (A : List Stage) → length A ≡ suc levels → Walking s base A (fresh_of base 0) 0 0 0
unfolding stage_of
walking_begun s base A sized =
    record {
      sized = sized;
      inside = omega arith;
      deep = omega arith;
      low = omega arith;
      state = inl (begun, record { reads = reads_begun s; depth_is = refl; stage_is = refl; kept = tt });
    }

-- ---- tokens by what they do

-- what is known behind a token
unfoldable pub Outcome : List ℕ → ℕ → List Stage → Stage → ℕ → ℕ → code.Token → Step → Type 0
Outcome s base A stage depth deepest t Stuck = Passed s base (record { fault = stuck_at t.start; deepest = deepest })
Outcome s base A stage depth deepest t Whole = Passed s base (record { fault = Ok tt; deepest = deepest })
Outcome s base A stage depth deepest t (On next) = Walking s base A next depth deepest t.end
Outcome s base A stage depth deepest t In =
    Walking s base (set A (slot_of base depth) (behind_primary stage)) (fresh_of base (depth + 1)) (depth + 1) (max deepest (depth + 1)) t.end
Outcome s base A stage depth deepest t Out = Walking s base A (get_or A (slot_of base (depth - 1)) Unseen) (depth - 1) deepest t.end

-- one that closes a row stands in braces
abbrev pub Moving : Step → ℕ → ℕ → ℕ → Type 0
Moving Stuck d i j = Unit {0}
Moving Whole d i j = Unit {0}
Moving (On next) d i j = i < j
Moving In d i j = i < j
Moving Out d i j = (i < j) × (0 < d)

pub moving : (k : TokenKind) (x : Stage) (d i j : ℕ) → HasBytes k i j → Moving (step_of k x d) d i j
moving Word x d i j h = h
moving (Joining k) x d i j h = keyword_steps (λ (step : Step). Moving step d i j) tt (λ y. h) k x
moving Open x d i j h = h
moving Close x d i j h = go (eqb d 0) (is_wanting x) refl
  where
    go : (a b : Bool) → eqb d 0 ≡ a → Moving (cond a Stuck (cond b Stuck Out)) d i j
    go true b e = tt
    go false true e = tt
    go false false e = (h, omega (arith, eqb-false d 0 e))
moving Other x d i j h = tt
moving End x d i j h = go (eqb d 0) (is_wanting x)
  where
    go : (a b : Bool) → Moving (cond a (cond b Stuck Whole) Stuck) d i j
    go true true = tt
    go true false = tt
    go false b = tt

-- a word or a keyword: it stays in its row
record InRow (k : TokenKind) (w : List ℕ) : Type 0 where
  goes : Level → Option Level
  reads_as : (st : Reading) → read st (kind_as k w) ≡ on_level st.around (goes st.level)
  steps : (seen : Bool) (L : Level) (d : ℕ) → step_of k (seen_as seen (stage_of L)) d ≡ step_seen seen (goes L)

word_in_row : (w : List ℕ) → InRow Word w
unfolding read
word_in_row w =
    record {
      goes = λ L. some (taking L (named w));
      reads_as = λ st. refl;
      steps = λ seen L d. ap On (primary_seen seen (stage_of L) ∙ ap (seen_as seen) (sym (stage_taking L (named w))));
    }

keyword_in_row : (k : Keyword) (w : List ℕ) → InRow (Joining k) w
unfolding read
keyword_in_row k w = record { goes = joining k; reads_as = λ st. refl; steps = λ seen L d. stage_joining seen k L }

not_before_same : (x : Tested) → NotBefore x x
not_before_same (Ok u) = tt
not_before_same (Err q) = omega arith

-- ---- behind a token

module _ {s : List ℕ} {base : ℕ} {A : List Stage} {stage : Stage} {depth deepest at : ℕ} {t : code.Token}
    (w : Walking s base A stage depth deepest at) (found : TokenAt s at t) where
  abbrev After : Step → Type 0
  After = Outcome s base A stage depth deepest t

  abbrev Next : Token → Type 0
  Next next = tokens_in (drop at s) ≡ next ∷ tokens_in (drop t.end s)

  right_found : {fault : Tested} → right_answer s ≡ fault → fault_level s ≡ depth → Passed s base (record { fault = fault; deepest = deepest })
  right_found {fault} right level =
      record {
        not_before = subst (NotBefore (right_answer s)) right (not_before_same (right_answer s));
        exact = λ seen. sym right;
        deep = omega (arith, w.deep);
        within = omega (arith, w.low, w.inside);
      }

  -- what is kept stays as it is
  walking_on : {next : Stage} {level : ℕ} → level ≤ deepest → t.start < t.end → State s base A next level deepest t.end →
      Walking s base A next level deepest t.end
  walking_on l m state =
      record { sized = w.sized; inside = found.within; deep = l; low = omega (arith, w.low, found.behind); state = state }

  walking_in : t.start < t.end →
      State s base (set A (slot_of base depth) (behind_primary stage)) (fresh_of base (depth + 1)) (depth + 1) (max deepest (depth + 1)) t.end → After In
  unfolding Outcome
  walking_in m state =
      record {
        sized = length-set A (slot_of base depth) (behind_primary stage) ∙ w.sized;
        inside = found.within;
        deep = omega arith;
        low = omega (arith, w.low, w.deep, found.behind);
        state = state;
      }

  -- ---- where the reading got stuck before

  module _ (b : Behind s base deepest at) where
    still_behind : {deepest' : ℕ} → deepest ≤ deepest' → t.start < t.end → Behind s base deepest' t.end
    still_behind l m =
        record {
          place = b.place;
          right_is = b.right_is;
          before = omega (arith, b.before, found.behind);
          hidden = b.hidden;
          deep = omega (arith, b.deep);
        }

    behind_passed : {fault : Tested} → NotBefore (stuck_at b.place) fault → Passed s base (record { fault = fault; deepest = deepest })
    behind_passed {fault} l =
        record {
          not_before = subst (λ (x : Tested). NotBefore x fault) (sym b.right_is) l;
          exact = λ seen. absurd (false≢true (sym b.hidden ∙ seen));
          deep = b.deep;
          within = omega (arith, w.low, w.inside);
        }

    behind_after : (step : Step) → Moving step depth t.start t.end → After step
    unfolding Outcome
    behind_after Stuck m = behind_passed (omega (arith, b.before, found.behind))
    behind_after Whole m = behind_passed tt
    behind_after (On next) m = walking_on w.deep m (inr (still_behind (omega arith) m))
    behind_after In m = walking_in m (inr (still_behind (omega arith) m))
    behind_after Out m = walking_on (omega (arith, w.deep)) m.0 (inr (still_behind (omega arith) m.0))

  -- ---- where what is kept agrees with the reading

  module _ {st : Reading} (a : Agrees s base A stage depth at st) where
    stuck_here : (next : Token) → Next next → read st next ≡ none → Passed s base (record { fault = stuck_at t.start; deepest = deepest })
    stuck_here next tokens is =
        let stops = reads_stuck a.reads found next tokens is in
        right_found stops.0 (stops.1 ∙ sym a.depth_is)

    -- unseen
    passed_here : (next : Token) → Next next → read st next ≡ none → t.start < t.end → is_seen base depth ≡ false → Behind s base deepest t.end
    passed_here next tokens is m unseen =
        let stops = reads_stuck a.reads found next tokens is in
        let level : fault_level s ≡ depth = stops.1 ∙ sym a.depth_is in
        record { place = t.start; right_is = stops.0; before = omega arith; hidden = rw level unseen; deep = omega (arith, w.deep) }

    row_after : {k : TokenKind} {bs : List ℕ} (row : InRow k bs) → Next (kind_as k bs) → t.start < t.end → After (step_of k stage depth)
    unfolding Outcome
    row_after {k} {bs} row tokens m =
        subst After (sym (ap (λ (x : Stage). step_of k x depth) a.stage_is ∙ row.steps (is_seen base depth) st.level depth))
        (go (row.goes st.level) (is_seen base depth) refl refl)
      where
        reads_as : {o : Option Level} → row.goes st.level ≡ o → read st (kind_as k bs) ≡ on_level st.around o
        reads_as is = row.reads_as st ∙ ap (on_level st.around) is

        go : (o : Option Level) (seen : Bool) → row.goes st.level ≡ o → is_seen base depth ≡ seen → After (step_seen seen o)
        go (some L) seen is e =
            walking_on w.deep m
            (inl (
              record { level = L; around = st.around },
              record { reads = reads_next a.reads found (kind_as k bs) tokens (reads_as is); depth_is = a.depth_is; stage_is = rw e; kept = a.kept },
            ))
        go none true is e = stuck_here (kind_as k bs) tokens (reads_as is)
        go none false is e = walking_on w.deep m (inr (passed_here (kind_as k bs) tokens (reads_as is) m e))

    in_after : Next opening → t.start < t.end → After In
    unfolding read stage_of
    in_after tokens m =
        let value = behind_primary (stage_of st.level) in
        let stored : behind_primary stage ≡ seen_as (is_seen base depth) value =
        ap behind_primary a.stage_is ∙ primary_seen (is_seen base depth) (stage_of st.level) in
        let room : slot_of base depth < length A = omega (arith, slot_small (slot_of base depth) base depth refl, w.sized) in
        walking_in m
        (inl (
          record { level = fresh; around = st.level ∷ st.around },
          record {
            reads = reads_next a.reads found opening tokens refl;
            depth_is = omega (arith, a.depth_is);
            stage_is = refl;
            kept = (
              rw (← a.depth_is) (get_or-set_same A (slot_of base depth) (behind_primary stage) Unseen room ∙ stored),
              subst (λ (v : Stage). Kept base (set A (slot_of base depth) v) st.around) (sym stored)
                  (kept_set base depth A value st.around (omega (arith, a.depth_is)) room a.kept),
            );
          },
        ))

    wanting_here : {o : Option Row} {seen : Bool} → ended st.level ≡ o → is_seen base depth ≡ seen → is_wanting stage ≡ (is_none o && seen)
    wanting_here is e = ap is_wanting a.stage_is ∙ stage_ended (is_seen base depth) st.level ∙ rw (is, e)

  step_close : {none_open wanting : Bool} → eqb depth 0 ≡ none_open → is_wanting stage ≡ wanting → After (cond none_open Stuck (cond wanting Stuck Out)) →
      After (step_of Close stage depth)
  step_close p q after = subst After (sym (rw (p, q))) after

  step_end : {none_open wanting : Bool} → eqb depth 0 ≡ none_open → is_wanting stage ≡ wanting → After (cond none_open (cond wanting Stuck Whole) Stuck) →
      After (step_of End stage depth)
  step_end p q after = subst After (sym (rw (p, q))) after

  out_after : (L : Level) (ls : List Level) → Agrees s base A stage depth at (record { level = L; around = ls }) → Next closing → t.start < t.end →
      After (step_of Close stage depth)
  unfolding Outcome read
  out_after L [] a tokens m = step_close (eq-eqb depth 0 a.depth_is) refl (stuck_here a closing tokens (go (ended L)))
    where
      go : (o : Option Row) → out_of [] o ≡ none
      go none = refl
      go (some r) = refl
  out_after L (l ∷ ls) a tokens m = go (ended L) (is_seen base depth) refl refl
    where
      less : depth - 1 ≡ length ls
      less = omega (arith, a.depth_is)

      opened : eqb depth 0 ≡ false
      opened = ne_eqb depth 0 (λ e. omega (arith, a.depth_is))

      go : (o : Option Row) (seen : Bool) → ended L ≡ o → is_seen base depth ≡ seen → After (step_of Close stage depth)
      go (some r) seen is e =
          step_close opened (wanting_here a is e)
          (walking_on (omega (arith, w.deep)) m
          (inl (
            record { level = taking l (braced r); around = ls },
            record {
              reads = reads_next a.reads found closing tokens (rw is);
              depth_is = less;
              stage_is = rw (less, stage_taking l (braced r)) a.kept.0;
              kept = a.kept.1;
            },
          )))
      go none true is e = step_close opened (wanting_here a is e) (stuck_here a closing tokens (rw is))
      go none false is e =
          step_close opened (wanting_here a is e) (walking_on (omega (arith, w.deep)) m (inr (passed_here a closing tokens (rw is) m e)))

  end_after : (L : Level) (ls : List Level) → Agrees s base A stage depth at (record { level = L; around = ls }) → tokens_in (drop at s) ≡ [] →
      After (step_of End stage depth)
  unfolding Outcome
  end_after L (l ∷ ls) a tokens =
      let ends = reads_end a.reads found tokens in
      step_end (ne_eqb depth 0 (λ e. omega (arith, a.depth_is))) refl (right_found (ends.0 ∙ go (ended L)) (ends.1 ∙ sym a.depth_is))
    where
      go : (o : Option Row) → tested_from at s (at_end (l ∷ ls) o) ≡ stuck_at t.start
      go none = ap stuck_at found.place
      go (some r) = ap stuck_at found.place
  end_after L [] a tokens = go (ended L) (is_seen base depth) refl refl
    where
      none_open : eqb depth 0 ≡ true
      none_open = eq-eqb depth 0 a.depth_is

      level : fault_level s ≡ depth
      level = (reads_end a.reads found tokens).1 ∙ sym a.depth_is

      right : {o : Option Row} → ended L ≡ o → right_answer s ≡ tested_from at s (at_end [] o)
      right is = (reads_end a.reads found tokens).0 ∙ rw is

      go : (o : Option Row) (seen : Bool) → ended L ≡ o → is_seen base depth ≡ seen → After (step_of End stage depth)
      go (some r) seen is e = step_end none_open (wanting_here a is e) (right_found (right is) level)
      go none true is e = step_end none_open (wanting_here a is e) (right_found (right is ∙ ap stuck_at found.place) level)
      go none false is e =
          step_end none_open (wanting_here a is e)
          (record {
            not_before = subst (λ (x : Tested). NotBefore x (Ok tt)) (sym (right is)) tt;
            exact = λ seen. absurd (false≢true (sym e ∙ rw level at seen));
            deep = omega (arith, level, w.deep);
            within = omega (arith, w.low, w.inside);
          })

  -- ---- any token

  agrees_after : {st : Reading} → Agrees s base A stage depth at st → (k : TokenKind) → t.kind ≡ k → After (step_of k stage depth)
  unfolding Outcome read
  agrees_after {st} a k is = go k (found.tokens ∙ ap (λ (x : TokenKind). token_then x bytes rest) is) (subst (λ (x : TokenKind). HasBytes x t.start t.end) is found.some)
    where
      bytes : List ℕ
      bytes = take (t.end - t.start) (drop t.start s)

      rest : List Token
      rest = tokens_in (drop t.end s)

      go : (k : TokenKind) → tokens_in (drop at s) ≡ token_then k bytes rest → HasBytes k t.start t.end → After (step_of k stage depth)
      go Word tokens m = row_after a (word_in_row bytes) tokens m
      go (Joining k) tokens m = row_after a (keyword_in_row k bytes) tokens m
      go Open tokens m = in_after a tokens m
      go Close tokens m = out_after st.level st.around a tokens m
      go Other tokens m = stuck_here a (other (get_or bytes 0 0)) tokens refl
      go End tokens m = end_after st.level st.around a tokens

  pub turn : After (step_of t.kind stage depth)
  turn =
      ⊎_elim (λ alive. agrees_after alive.1 t.kind refl)
      (λ b. behind_after b (step_of t.kind stage depth) (moving t.kind stage depth t.start t.end found.some)) w.state
