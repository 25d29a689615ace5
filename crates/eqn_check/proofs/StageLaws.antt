-- The stage of a row tells what the row's reading does with a token.
--     stage_taking       a word or a group
--     stage_joining      a keyword, which `keyword_steps` takes apart
--     stage_ended        where a row may end
-- A keyword's operand goes to the open part of an expression, the one that may go on, and is what is last there.
-- Assumes nothing.
use Rattle.std.specs.Prelude.{◌≡◌, refl, Bool, true, false, cond, ◌&&◌, []}
use Rattle.std.proofs.Common.{sym, ◌∙◌}
use Rattle.std.proofs.Math.Bool.{and-false}
use Rattle.std.proofs.lemmas.Bool.{false≢true}
use Rattle.std.proofs.Math.Option.{Option, none, some}
use Rattle.eqn_grammar.specs.Grammar.{Row, Limited, limited, Overs, single, fraction, no_overs, some_overs, Scripted, scripted, Primary, named, no_primary, some_primary}
use Rattle.eqn_grammar.specs.Parsing.{Level, fresh, having, wanting, bare, on_scripted, on_open, with_sub, with_sup, joined, role_of, last_scripted, open_overs, open_role, limit_of, may_follow, taking, joining, ended, nucleus, subscript, superscript, unlimited, lower, upper}
use Rattle.eqn_grammar.specs.Parsing as grammar
use Rattle.eqn_check.specs.declared.stages.Role.TheVariants.{Nucleus, Subscript, Superscript}
use Rattle.eqn_check.specs.declared.stages.Limit.TheVariants.{Unlimited, Lower, Upper}
use Rattle.eqn_check.specs.declared.stages.Stage.{Stage}
use Rattle.eqn_check.specs.declared.stages.Stage.TheVariants.{Unseen, Start, Have, Want}
use Rattle.eqn_check.specs.declared.stages.Step.{Step}
use Rattle.eqn_check.specs.declared.stages.Step.TheVariants.{Stuck, On}
use Rattle.eqn_check.specs.Stages.{role_as, limit_as, stage_of, seen_as, behind_primary, joined_by, behind_keyword, is_wanting}
use Rattle.eqn_tokens.specs.declared.tokens.Keyword.{Keyword}
use Rattle.eqn_tokens.specs.declared.tokens.Keyword.TheVariants.{Sub, Sup, Over, From, To}

-- ---- the open part

open_on : (g : Overs → Overs) (l : Limited) → open_overs (on_open g l) ≡ g (open_overs l)
open_on g (limited o no_overs no_overs) = refl
open_on g (limited o (some_overs f) no_overs) = refl
open_on g (limited o f (some_overs t)) = refl

last_on : (f : Scripted → Scripted) (o : Overs) → last_scripted (on_scripted f o) ≡ f (last_scripted o)
last_on f (single s) = refl
last_on f (fraction o s) = refl

limit_on : (g : Overs → Overs) (l : Limited) → limit_of (on_open g l) ≡ limit_of l
limit_on g (limited o no_overs no_overs) = refl
limit_on g (limited o (some_overs f) no_overs) = refl
limit_on g (limited o f (some_overs t)) = refl

role_on : (g : Overs → Overs) (l : Limited) → open_role (on_open g l) ≡ role_of (last_scripted (g (open_overs l)))
role_on g l = rw (open_on g l)

scripts_on : (f : Scripted → Scripted) (l : Limited) → open_role (on_open (on_scripted f) l) ≡ role_of (f (last_scripted (open_overs l)))
scripts_on f l = role_on (on_scripted f) l ∙ rw (last_on f (open_overs l))

-- ---- an operand behind a keyword

abbrev role_behind : Keyword → grammar.Role
role_behind Sub = subscript
role_behind Sup = superscript
role_behind Over = nucleus
role_behind From = nucleus
role_behind To = nucleus

abbrev limit_behind : Keyword → grammar.Limit → grammar.Limit
limit_behind Sub l = l
limit_behind Sup l = l
limit_behind Over l = l
limit_behind From l = lower
limit_behind To l = upper

-- where the keyword may follow, the operand is the last part
role_behind_lem : (j : Keyword) (x : Primary) (l : Limited) → may_follow j (open_role l) (limit_of l) ≡ true → open_role (joined j x l) ≡ role_behind j
unfolding may_follow joined
role_behind_lem Sub x l e = scripts_on (with_sub x) l ∙ go (last_scripted (open_overs l)) e
  where
    go : (s : Scripted) → may_follow Sub (role_of s) (limit_of l) ≡ true → role_of (with_sub x s) ≡ subscript
    go (scripted p no_primary no_primary) h = refl
    go (scripted p (some_primary b) no_primary) h = absurd (false≢true h)
    go (scripted p b (some_primary q)) h = absurd (false≢true h)
role_behind_lem Sup x l e = scripts_on (with_sup x) l ∙ go (last_scripted (open_overs l))
  where
    go : (s : Scripted) → role_of (with_sup x s) ≡ superscript
    go (scripted p b q) = refl
role_behind_lem Over x l e = role_on (λ o. fraction o (bare x)) l
role_behind_lem From x (limited o no_overs no_overs) e = refl
role_behind_lem From x (limited o (some_overs f) no_overs) e = absurd (false≢true e)
role_behind_lem From x (limited o f (some_overs t)) e = absurd (false≢true e)
role_behind_lem To x (limited o f t) e = refl

limit_behind_lem : (j : Keyword) (x : Primary) (l : Limited) → may_follow j (open_role l) (limit_of l) ≡ true → limit_of (joined j x l) ≡ limit_behind j (limit_of l)
unfolding may_follow joined
limit_behind_lem Sub x l e = limit_on (on_scripted (with_sub x)) l
limit_behind_lem Sup x l e = limit_on (on_scripted (with_sup x)) l
limit_behind_lem Over x l e = limit_on (λ o. fraction o (bare x)) l
limit_behind_lem From x (limited o no_overs no_overs) e = refl
limit_behind_lem From x (limited o (some_overs f) no_overs) e = absurd (false≢true e)
limit_behind_lem From x (limited o f (some_overs t)) e = absurd (false≢true e)
limit_behind_lem To x (limited o f t) e = refl

-- which operand it is tells nothing
role_whatever : (j : Keyword) (x y : Primary) (l : Limited) → open_role (joined j x l) ≡ open_role (joined j y l)
unfolding joined
role_whatever Sub x y l = scripts_on (with_sub x) l ∙ go (last_scripted (open_overs l)) ∙ sym (scripts_on (with_sub y) l)
  where
    go : (s : Scripted) → role_of (with_sub x s) ≡ role_of (with_sub y s)
    go (scripted p b no_primary) = refl
    go (scripted p b (some_primary q)) = refl
role_whatever Sup x y l = scripts_on (with_sup x) l ∙ go (last_scripted (open_overs l)) ∙ sym (scripts_on (with_sup y) l)
  where
    go : (s : Scripted) → role_of (with_sup x s) ≡ role_of (with_sup y s)
    go (scripted p b q) = refl
role_whatever Over x y l = role_on (λ o. fraction o (bare x)) l ∙ sym (role_on (λ o. fraction o (bare y)) l)
role_whatever From x y (limited o f no_overs) = refl
role_whatever From x y (limited o f (some_overs t)) = refl
role_whatever To x y (limited o f t) = refl

limit_whatever : (j : Keyword) (x y : Primary) (l : Limited) → limit_of (joined j x l) ≡ limit_of (joined j y l)
unfolding joined
limit_whatever Sub x y l = limit_on (on_scripted (with_sub x)) l ∙ sym (limit_on (on_scripted (with_sub y)) l)
limit_whatever Sup x y l = limit_on (on_scripted (with_sup x)) l ∙ sym (limit_on (on_scripted (with_sup y)) l)
limit_whatever Over x y l = limit_on (λ o. fraction o (bare x)) l ∙ sym (limit_on (λ o. fraction o (bare y)) l)
limit_whatever From x y (limited o f no_overs) = refl
limit_whatever From x y (limited o f (some_overs t)) = refl
limit_whatever To x y (limited o f t) = refl

-- ---- a word or a group

pub stage_taking : (L : Level) (x : Primary) → stage_of (taking L x) ≡ behind_primary (stage_of L)
unfolding stage_of taking
stage_taking fresh x = refl
stage_taking (having r l) x = refl
stage_taking (wanting r l j) x = rw (role_whatever j x (named []) l, limit_whatever j x (named []) l)

pub primary_seen : (seen : Bool) (x : Stage) → behind_primary (seen_as seen x) ≡ seen_as seen (behind_primary x)
primary_seen true x = refl
primary_seen false x = refl

-- ---- a keyword

-- the code's table is the grammar's
joined_by_lem : (j : Keyword) (p : grammar.Role) (l : grammar.Limit) →
    joined_by j (role_as p) (limit_as l) ≡ cond (may_follow j p l) (On (Want (role_as (role_behind j)) (limit_as (limit_behind j l)))) Stuck
unfolding may_follow
joined_by_lem Sub nucleus l = refl
joined_by_lem Sub subscript l = refl
joined_by_lem Sub superscript l = refl
joined_by_lem Sup nucleus l = refl
joined_by_lem Sup subscript l = refl
joined_by_lem Sup superscript l = refl
joined_by_lem Over p l = refl
joined_by_lem From p unlimited = refl
joined_by_lem From p lower = refl
joined_by_lem From p upper = refl
joined_by_lem To p unlimited = refl
joined_by_lem To p lower = refl
joined_by_lem To p upper = refl

-- what a token that stays in its row does, by what the reading makes of the row
abbrev pub step_seen : Bool → Option Level → Step
step_seen seen (some L) = On (seen_as seen (stage_of L))
step_seen true none = Stuck
step_seen false none = On Unseen

pub stage_joining : (seen : Bool) (j : Keyword) (L : Level) → behind_keyword j (seen_as seen (stage_of L)) ≡ step_seen seen (joining j L)
unfolding stage_of joining
stage_joining false j L = go (joining j L)
  where
    go : (o : Option Level) → On Unseen ≡ step_seen false o
    go none = refl
    go (some after) = refl
stage_joining true j fresh = refl
stage_joining true j (wanting r l k) = refl
stage_joining true j (having r l) = joined_by_lem j (open_role l) (limit_of l) ∙ go (may_follow j (open_role l) (limit_of l)) refl
  where
    go : (t : Bool) → may_follow j (open_role l) (limit_of l) ≡ t →
        cond t (On (Want (role_as (role_behind j)) (limit_as (limit_behind j (limit_of l))))) Stuck ≡ step_seen true (elim t [ true ↦ some (wanting r l j) | false ↦ none ])
    go true e = rw (role_behind_lem j (named []) l e, limit_behind_lem j (named []) l e)
    go false e = refl

-- it only gets stuck or goes on
pub keyword_steps : (P : Step → Type 0) → P Stuck → ((x : Stage) → P (On x)) → (j : Keyword) (x : Stage) → P (behind_keyword j x)
keyword_steps P s o j Unseen = o _
keyword_steps P s o j Start = s
keyword_steps P s o j (Want p l) = s
keyword_steps P s o Sub (Have Nucleus l) = o _
keyword_steps P s o Sub (Have Subscript l) = s
keyword_steps P s o Sub (Have Superscript l) = s
keyword_steps P s o Sup (Have Nucleus l) = o _
keyword_steps P s o Sup (Have Subscript l) = o _
keyword_steps P s o Sup (Have Superscript l) = s
keyword_steps P s o Over (Have p l) = o _
keyword_steps P s o From (Have p Unlimited) = o _
keyword_steps P s o From (Have p Lower) = s
keyword_steps P s o From (Have p Upper) = s
keyword_steps P s o To (Have p Unlimited) = o _
keyword_steps P s o To (Have p Lower) = o _
keyword_steps P s o To (Have p Upper) = s

-- ---- where a row may end

abbrev pub is_none : Option Row → Bool
is_none none = true
is_none (some r) = false

pub stage_ended : (seen : Bool) (L : Level) → is_wanting (seen_as seen (stage_of L)) ≡ (is_none (ended L) && seen)
unfolding stage_of ended
stage_ended true fresh = refl
stage_ended true (having r l) = refl
stage_ended true (wanting r l j) = refl
stage_ended false L = sym (and-false (is_none (ended L)))
