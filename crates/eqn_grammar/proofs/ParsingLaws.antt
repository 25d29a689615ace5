-- The reading of tokens one after the other is what the grammar says.
--     reads_primary, reads_limited    the tokens of a word or group, and of an expression, are read to itself, at every level
--     parse_complete                  the tokens of a derivation give that derivation
--     only_derivation                 so a list of tokens has at most one
--     parse_sound                     a derivation that comes out has the tokens that went in
-- The place of a refusal is the first token that can continue no text of the grammar, or the end:
--     stuck_viable     the tokens before that place begin some text
--     stuck_within     it is the place of a token, or the end
--     stuck_there      with the token that stands there they begin none
--     stuck_end        and all the tokens together are no text, which is what is wrong where the place is the end
--     stuck_is         a place of which this holds is the place of the refusal
-- A derivation's tokens are read by one induction over it (`reads_row` and those behind it), from a level in which its first operand is
-- the one that is taken next. What a refusal says follows token by token (`parsed_so`), and the rest from both.
-- Assumes nothing.
use Rattle.std.specs.Prelude.{◌≡◌, refl, true, List, [], ◌∷◌, ◌++◌, ℕ, zero, suc, ◌≤◌, ◌<◌, length, take, drop}
use Rattle.std.proofs.Common.{sym, subst, ap, ◌∙◌, append-nil, arith, take-append-drop, take-take}
use Rattle.std.proofs.Math.Option.{Option, none, some, bind}
use Rattle.std.proofs.Math.Decide.{dec_lt}
use Rattle.laws.specs.Options.{none_some}
use Rattle.eqn_tokens.specs.Tokens.{Token, keyword, closing}
use Rattle.eqn_grammar.specs.Grammar.{Row, nil, beside, Limited, limited, NoOvers, no_overs, some_overs, Overs, single, fraction, Scripted, scripted, NoPrimary, no_primary, some_primary, Primary, named, braced, row_tokens, limited_tokens, limit_tokens, overs_tokens, scripted_tokens, script_tokens, primary_tokens, Viable}
use Rattle.eqn_grammar.specs.Parsing.{bare, alone, with_last, on_scripted, on_open, with_sub, with_sup, joined, Limit, role_of, last_scripted, open_overs, open_role, limit_of, may_follow, Level, fresh, having, wanting, Reading, taking, joining, ended, read, Parsed, whole, stuck, one_later, at_end, parse_then, parse_from, begun, parse}
use Rattle.eqn_grammar.proofs.ReadLaws.{reading_tokens, around_tokens, reading, begun_sound, begun_tokens, ended_tokens, reads, reads_append, reads_then, reads_sound, reads_tokens, viable_before, sound_viable}
use Rattle.eqn_tokens.specs.declared.tokens.Keyword.{Keyword}
use Rattle.eqn_tokens.specs.declared.tokens.Keyword.TheVariants.{Sub, Sup, Over, From, To}

-- ---- a keyword is read where it may follow

follows : (j : Keyword) (r : Row) (l : Limited) → may_follow j (open_role l) (limit_of l) ≡ true → joining j (having r l) ≡ some (wanting r l j)
unfolding joining
follows j r l m = rw (m, joining)

reads_keyword : (j : Keyword) (r : Row) (l : Limited) (ls : List Level) (ts : List Token) → may_follow j (open_role l) (limit_of l) ≡ true →
    reads (reading (having r l) ls) (keyword j ∷ ts) ≡ reads (reading (wanting r l j) ls) ts
unfolding reads bind read
reads_keyword j r l ls ts m = rw (follows j r l m)

-- ---- a derivation's tokens are read to itself

-- where fractions stand in an expression
data Around : Type 0 where
  first : Around
  behind_from : Overs → Around
  behind_to : Overs → NoOvers → Around

abbrev within : Around → Overs → Limited
within first o = limited o no_overs no_overs
within (behind_from k) o = limited k (some_overs o) no_overs
within (behind_to k f) o = limited k f (some_overs o)

-- where an operand of `over` stands in them
data Before : Type 0 where
  nothing : Before
  numerator : Overs → Before

abbrev behind : Before → Scripted → Overs
behind nothing s = single s
behind (numerator o) s = fraction o s

open_within : (a : Around) (o : Overs) → open_overs (within a o) ≡ o
open_within first o = refl
open_within (behind_from k) o = refl
open_within (behind_to k f) o = refl

on_within : (g : Overs → Overs) (a : Around) (o : Overs) → on_open g (within a o) ≡ within a (g o)
on_within g first o = refl
on_within g (behind_from k) o = refl
on_within g (behind_to k f) o = refl

last_behind : (b : Before) (s : Scripted) → last_scripted (behind b s) ≡ s
last_behind nothing s = refl
last_behind (numerator o) s = refl

on_behind : (g : Scripted → Scripted) (b : Before) (s : Scripted) → on_scripted g (behind b s) ≡ behind b (g s)
on_behind g nothing s = refl
on_behind g (numerator o) s = refl

role_there : (a : Around) (b : Before) (s : Scripted) → open_role (within a (behind b s)) ≡ role_of s
role_there a b s = rw (open_within, last_behind)

on_there : (g : Scripted → Scripted) (a : Around) (b : Before) (s : Scripted) →
    on_open (on_scripted g) (within a (behind b s)) ≡ within a (behind b (g s))
on_there g a b s = rw (on_within, on_behind)

-- rows side by side
unfoldable beyond : Row → Row → Row
beyond nil r = r
beyond (beside l q) r = beside l (beyond q r)

last_beyond : (q : Row) (l : Limited) (r : Row) → beyond (with_last q l) r ≡ beyond q (beside l r)
unfolding beyond with_last
last_beyond nil l r = refl
last_beyond (beside k q) l r = ap (beside k) (last_beyond q l r)

beyond_nil : (q : Row) → beyond q nil ≡ q
unfolding beyond
beyond_nil nil = refl
beyond_nil (beside k q) = ap (beside k) (beyond_nil q)

taking_ended : (k : Level) (q : Row) (x : Primary) → ended k ≡ some q → taking k x ≡ having q (alone x)
unfolding taking ended
taking_ended fresh q x e = let same : q ≡ nil = cc in rw same
taking_ended (having r l) q x e = let same : q ≡ with_last r l = cc in rw same
taking_ended (wanting r l j) q x e = absurd (none_some e)

-- the level behind a row r, where the row q stands before it
record RowRead (k : Level) (ls : List Level) (q r : Row) : Type 0 where
  after : Level
  reached : reads (reading k ls) (row_tokens r) ≡ some (reading after ls)
  ends : ended after ≡ some (beyond q r)

to_follows : (o : Overs) (f : NoOvers) → may_follow To (open_role (limited o f no_overs)) (limit_of (limited o f no_overs)) ≡ true
unfolding may_follow
to_follows o no_overs = refl
to_follows o (some_overs f) = refl

sup_follows : (p : Primary) (b : NoPrimary) (l : Limit) → may_follow Sup (role_of (scripted p b no_primary)) l ≡ true
unfolding may_follow
sup_follows p no_primary l = refl
sup_follows p (some_primary b) l = refl

mutual
  unfolding reads read bind taking joining ended joined may_follow row_tokens beyond

  reads_row : (r : Row) (k : Level) (ls : List Level) (q : Row) → ended k ≡ some q → RowRead k ls q r
  reads_row nil k ls q e = record { after = k; reached = refl; ends = rw beyond_nil e }
  reads_row (beside l r) k ls q e =
      let rest = reads_row r (having q l) ls (with_last q l) refl in
      record {
        after = rest.after;
        reached = reads_then (limited_tokens l) (row_tokens r) (reading k ls) (reads_limited l k ls q e) rest.reached;
        ends = rest.ends ∙ ap some (last_beyond q l r);
      }

  pub reads_limited : (l : Limited) (k : Level) (ls : List Level) (q : Row) → ended k ≡ some q →
      reads (reading k ls) (limited_tokens l) ≡ some (reading (having q l) ls)
  reads_limited (limited o f t) k ls q e =
      reads_then (overs_tokens o) (limit_tokens From f ++ limit_tokens To t) (reading k ls)
      (reads_overs o k ls q first (λ x. taking_ended k q x e))
      (reads_then (limit_tokens From f) (limit_tokens To t) (reading (having q (within first o)) ls)
      (reads_limit f From (λ n. limited o n no_overs) (behind_from o) q ls refl (λ x. refl) (λ u. refl))
      (reads_limit t To (λ n. limited o f n) (behind_to o f) q ls (to_follows o f) (λ x. refl) (λ u. refl)))

  -- behind `from` or `to`
  reads_limit : (n : NoOvers) (j : Keyword) (put : NoOvers → Limited) (a : Around) (q : Row) (ls : List Level) →
      may_follow j (open_role (put no_overs)) (limit_of (put no_overs)) ≡ true →
      ((x : Primary) → joined j x (put no_overs) ≡ put (some_overs (single (bare x)))) →
      ((o : Overs) → put (some_overs o) ≡ within a o) →
      reads (reading (having q (put no_overs)) ls) (limit_tokens j n) ≡ some (reading (having q (put n)) ls)
  reads_limit no_overs j put a q ls m e w = refl
  reads_limit (some_overs o) j put a q ls m e w =
      reads_keyword j q (put no_overs) ls (overs_tokens o) m
      ∙ reads_overs o (wanting q (put no_overs) j) ls q a (λ x. ap (having q) (e x ∙ w (single (bare x))))
      ∙ rw w

  reads_overs : (o : Overs) (k : Level) (ls : List Level) (q : Row) (a : Around) →
      ((x : Primary) → taking k x ≡ having q (within a (single (bare x)))) →
      reads (reading k ls) (overs_tokens o) ≡ some (reading (having q (within a o)) ls)
  reads_overs (single s) k ls q a e = reads_scripted s k ls q a nothing e
  reads_overs (fraction o s) k ls q a e =
      reads_then (overs_tokens o) (keyword Over ∷ scripted_tokens s) (reading k ls) (reads_overs o k ls q a e)
      (reads_keyword Over q (within a o) ls (scripted_tokens s) refl
      ∙ reads_scripted s (wanting q (within a o) Over) ls q a (numerator o)
      (λ x. ap (having q) (on_within (λ u. fraction u (bare x)) a o)))

  reads_scripted : (s : Scripted) (k : Level) (ls : List Level) (q : Row) (a : Around) (b : Before) →
      ((x : Primary) → taking k x ≡ having q (within a (behind b (bare x)))) →
      reads (reading k ls) (scripted_tokens s) ≡ some (reading (having q (within a (behind b s))) ls)
  reads_scripted (scripted p n m) k ls q a b e =
      reads_then (primary_tokens p) (script_tokens Sub n ++ script_tokens Sup m) (reading k ls) (reads_primary p k ls ∙ rw e)
      (reads_then (script_tokens Sub n) (script_tokens Sup m) (reading (having q (within a (behind b (bare p)))) ls)
      (reads_script n Sub (λ u. within a (behind b (scripted p u no_primary))) q ls (rw role_there refl)
      (λ x. on_there (with_sub x) a b (bare p)))
      (reads_script m Sup (λ u. within a (behind b (scripted p n u))) q ls (rw role_there (sup_follows p n _))
      (λ x. on_there (with_sup x) a b (scripted p n no_primary))))

  -- behind `sub` or `sup`
  reads_script : (n : NoPrimary) (j : Keyword) (put : NoPrimary → Limited) (q : Row) (ls : List Level) →
      may_follow j (open_role (put no_primary)) (limit_of (put no_primary)) ≡ true →
      ((x : Primary) → joined j x (put no_primary) ≡ put (some_primary x)) →
      reads (reading (having q (put no_primary)) ls) (script_tokens j n) ≡ some (reading (having q (put n)) ls)
  reads_script no_primary j put q ls m e = refl
  reads_script (some_primary x) j put q ls m e =
      reads_keyword j q (put no_primary) ls (primary_tokens x) m ∙ reads_primary x (wanting q (put no_primary) j) ls ∙ rw e

  pub reads_primary : (x : Primary) (k : Level) (ls : List Level) → reads (reading k ls) (primary_tokens x) ≡ some (reading (taking k x) ls)
  reads_primary (named w) k ls = refl
  reads_primary (braced r) k ls =
      let inside = reads_row r fresh (k ∷ ls) nil refl in
      reads_then (row_tokens r) (closing ∷ []) (reading fresh (k ∷ ls)) inside.reached (rw inside.ends)

-- ---- the derivation of a text

unfoldable pub later : ℕ → Parsed → Parsed
later zero p = p
later (suc n) p = one_later (later n p)

later_whole : (n : ℕ) (r : Row) → later n (whole r) ≡ whole r
unfolding later
later_whole zero r = refl
later_whole (suc n) r = rw (later_whole n r)

-- behind tokens that can be read
pub parse_behind : (ts us : List Token) (st after : Reading) → reads st ts ≡ some after →
    parse_from st (ts ++ us) ≡ later (length ts) (parse_from after us)
unfolding reads bind parse_from parse_then later
parse_behind [] us st after e = let same : st ≡ after = cc in rw same
parse_behind (t ∷ ts) us st after e = go (read st t) e (λ next. parse_behind ts us next after)
  where
    go : (next : Option Reading) → bind next (λ mid. reads mid ts) ≡ some after →
        ((mid : Reading) → reads mid ts ≡ some after → parse_from mid (ts ++ us) ≡ later (length ts) (parse_from after us)) →
        parse_then (λ mid. parse_from mid (ts ++ us)) next ≡ one_later (later (length ts) (parse_from after us))
    go none e rest = absurd (none_some e)
    go (some mid) e rest = ap one_later (rest mid e)

pub parse_complete : (r : Row) → parse (row_tokens r) ≡ whole r
unfolding parse parse_from ended beyond
parse_complete r =
    let all = reads_row r fresh [] nil refl in
    ap (parse_from begun) (sym (append-nil (row_tokens r)))
    ∙ parse_behind (row_tokens r) [] begun (reading all.after []) all.reached
    ∙ ap (λ (o : Option Row). later (length (row_tokens r)) (at_end [] o)) all.ends
    ∙ later_whole (length (row_tokens r)) r

pub only_derivation : (r s : Row) → row_tokens r ≡ row_tokens s → r ≡ s
only_derivation r s e = cc (parse_complete r, parse_complete s)

-- ---- what a derivation, and a refusal, say of the reading

record WholeOf (st : Reading) (ts : List Token) (r : Row) : Type 0 where
  after : Level
  reached : reads st ts ≡ some (reading after [])
  ends : ended after ≡ some r

record StuckAt (st : Reading) (ts : List Token) (n : ℕ) : Type 0 where
  after : Reading
  reached : reads st (take n ts) ≡ some after
  within : n ≤ length ts
  there : n < length ts → reads st (take (suc n) ts) ≡ none

abbrev ParsedSo : Reading → List Token → Parsed → Type 0
ParsedSo st ts (whole r) = WholeOf st ts r
ParsedSo st ts (stuck n) = StuckAt st ts n

so_later : (st next : Reading) (t : Token) (ts : List Token) → read st t ≡ some next → (p : Parsed) → ParsedSo next ts p →
    ParsedSo st (t ∷ ts) (one_later p)
unfolding reads bind
so_later st next t ts e (whole r) so = record { after = so.after; reached = rw e so.reached; ends = so.ends }
so_later st next t ts e (stuck n) so =
    record { after = so.after; reached = rw e so.reached; within = omega arith; there = λ below. rw e (so.there (omega arith)) }

at_once : (st : Reading) (ts : List Token) → (0 < length ts → reads st (take 1 ts) ≡ none) → StuckAt st ts 0
unfolding reads
at_once st ts h = record { after = st; reached = refl; within = omega arith; there = h }

parsed_so : (ts : List Token) (st : Reading) → ParsedSo st ts (parse_from st ts)
unfolding parse_from parse_then reads bind
parsed_so [] st = go st.around (ended st.level) refl refl
  where
    go : (ls : List Level) (row : Option Row) → st.around ≡ ls → ended st.level ≡ row → ParsedSo st [] (at_end ls row)
    go ls none f e = at_once st [] (λ below. absurd (omega arith))
    go [] (some r) f e = record { after = st.level; reached = ap (λ (ls : List Level). some (reading st.level ls)) f; ends = e }
    go (l ∷ ls) (some r) f e = at_once st [] (λ below. absurd (omega arith))
parsed_so (t ∷ ts) st = go (read st t) refl (parsed_so ts)
  where
    go : (next : Option Reading) → read st t ≡ next → ((after : Reading) → ParsedSo after ts (parse_from after ts)) →
        ParsedSo st (t ∷ ts) (parse_then (λ after. parse_from after ts) next)
    go none e rest = at_once st (t ∷ ts) (λ below. rw e)
    go (some next) e rest = so_later st next t ts e (parse_from next ts) (rest next)

parse_so : (ts : List Token) (p : Parsed) → parse ts ≡ p → ParsedSo begun ts p
unfolding parse
parse_so ts p e = subst (ParsedSo begun ts) e (parsed_so ts begun)

pub parse_sound : (ts : List Token) (r : Row) → parse ts ≡ whole r → row_tokens r ≡ ts
unfolding reading_tokens around_tokens
parse_sound ts r e =
    let so = parse_so ts (whole r) e in
    ended_tokens so.after r so.ends ∙ reads_tokens ts begun (reading so.after []) begun_sound so.reached ∙ begun_tokens ts

-- ---- texts that can go on

viable_shorter : (m n : ℕ) (ts : List Token) → m ≤ n → Viable (take n ts) → Viable (take m ts)
viable_shorter m n ts h v =
    rw (← take-take m n ts) (viable_before (take m (take n ts)) (drop m (take n ts)) (rw take-append-drop v))

whole_viable : (ts : List Token) (r : Row) (n : ℕ) → row_tokens r ≡ ts → Viable (take n ts)
whole_viable ts r n e = record { row = r; rest = drop n ts; begins = e ∙ sym (take-append-drop n ts) }

viable_reads : (ts : List Token) → Viable ts → reads begun ts ≡ none → ⊥
unfolding bind ended
viable_reads ts v e =
    let all = reads_row v.row fresh [] nil refl in
    none_some (rw (v.begins, reads_append, e) at all.reached)

-- ---- the first token that can continue no text

pub stuck_viable : (ts : List Token) (n : ℕ) → parse ts ≡ stuck n → Viable (take n ts)
stuck_viable ts n e =
    let so = parse_so ts (stuck n) e in
    subst Viable (reads_tokens (take n ts) begun so.after begun_sound so.reached ∙ begun_tokens (take n ts))
    (sound_viable so.after (reads_sound (take n ts) begun so.after begun_sound so.reached))

pub stuck_within : (ts : List Token) (n : ℕ) → parse ts ≡ stuck n → n ≤ length ts
stuck_within ts n e = (parse_so ts (stuck n) e).within

pub stuck_there : (ts : List Token) (n : ℕ) → parse ts ≡ stuck n → n < length ts → Viable (take (suc n) ts) → ⊥
stuck_there ts n e below v = viable_reads (take (suc n) ts) v ((parse_so ts (stuck n) e).there below)

pub stuck_end : (ts : List Token) (n : ℕ) → parse ts ≡ stuck n → (r : Row) → row_tokens r ≡ ts → ⊥
stuck_end ts n e r f = let no : ◌≡◌ {A = ℕ} 0 1 = cc (parse_complete r) in omega arith

-- there is one such place
stuck_once : (ts : List Token) (m n : ℕ) → parse ts ≡ stuck m → n ≤ length ts → Viable (take n ts) →
    (n < length ts → Viable (take (suc n) ts) → ⊥) → m ≡ n
stuck_once ts m n e inside v last =
    let within = stuck_within ts m e in
    let least : ¬ (m < n) = λ below. stuck_there ts m e (omega arith) (viable_shorter (suc m) n ts below v) in
    let most : ¬ (n < m) = λ above. last (omega arith) (viable_shorter (suc n) m ts above (stuck_viable ts m e)) in
    omega arith

pub stuck_is : (ts : List Token) (n : ℕ) → n ≤ length ts → Viable (take n ts) → (n < length ts → Viable (take (suc n) ts) → ⊥) →
    (n ≡ length ts → (r : Row) → row_tokens r ≡ ts → ⊥) → parse ts ≡ stuck n
stuck_is ts n inside v last end = go (parse ts) refl
  where
    underived : (r : Row) → row_tokens r ≡ ts → Dec (n < length ts) → ⊥
    underived r e (yes below) = last below (whole_viable ts r (suc n) e)
    underived r e (no out) = end (omega arith) r e

    go : (p : Parsed) → parse ts ≡ p → p ≡ stuck n
    go (whole r) e = absurd (underived r (parse_sound ts r e) (dec_lt n (length ts)))
    go (stuck m) e = ap stuck (stuck_once ts m n e inside v last)
