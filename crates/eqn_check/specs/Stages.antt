-- Stages: what is kept of a row that is being read, and what a token does there.
--     stage_of L          the stage of a row of a reading; `seen_as` what is kept of it
--     behind_primary      a stage behind a word or a group
--     joined_by           what a keyword does behind an operand; `behind_keyword` at any stage
--     step_of k s d       what a token of kind k does at the stage s, in d braces
-- Where a row is unseen, all passes but a byte of no text, a brace that closes none, and an end in braces.
-- Assumes nothing.
use Rattle.std.specs.Prelude.{Bool, true, false, cond, [], ℕ, eqb}
use Rattle.eqn_tokens.specs.declared.tokens.TokenKind.{TokenKind}
use Rattle.eqn_tokens.specs.declared.tokens.TokenKind.TheVariants.{Word, Keyword as Joining, Open, Close, Other, End}
use Rattle.eqn_grammar.specs.Grammar.{named}
use Rattle.eqn_grammar.specs.Parsing.{Level, fresh, having, wanting, joined, open_role, limit_of, nucleus, subscript, superscript, unlimited, lower, upper}
use Rattle.eqn_grammar.specs.Parsing as grammar
use Rattle.eqn_check.specs.declared.stages.Role.{Role}
use Rattle.eqn_check.specs.declared.stages.Role.TheVariants.{Nucleus, Subscript, Superscript}
use Rattle.eqn_check.specs.declared.stages.Limit.{Limit}
use Rattle.eqn_check.specs.declared.stages.Limit.TheVariants.{Unlimited, Lower, Upper}
use Rattle.eqn_check.specs.declared.stages.Stage.{Stage}
use Rattle.eqn_check.specs.declared.stages.Stage.TheVariants.{Unseen, Start, Have, Want}
use Rattle.eqn_check.specs.declared.stages.Step.{Step}
use Rattle.eqn_check.specs.declared.stages.Step.TheVariants.{Stuck, Whole, On, In, Out}
use Rattle.eqn_tokens.specs.declared.tokens.Keyword.{Keyword}
use Rattle.eqn_tokens.specs.declared.tokens.Keyword.TheVariants.{Sub, Sup, Over, From, To}

-- ---- the stage of a row

abbrev pub role_as : grammar.Role → Role
role_as nucleus = Nucleus
role_as subscript = Subscript
role_as superscript = Superscript

abbrev pub limit_as : grammar.Limit → Limit
limit_as unlimited = Unlimited
limit_as lower = Lower
limit_as upper = Upper

-- an operand that is wanted is whatever word; what it is tells nothing of the stage behind it
unfoldable pub stage_of : Level → Stage
stage_of fresh = Start
stage_of (having r l) = Have (role_as (open_role l)) (limit_as (limit_of l))
stage_of (wanting r l j) = Want (role_as (open_role (joined j (named []) l))) (limit_as (limit_of (joined j (named []) l)))

-- what is kept of it, where it is seen
abbrev pub seen_as : Bool → Stage → Stage
seen_as seen s = cond seen s Unseen

-- ---- what a token does

abbrev pub behind_primary : Stage → Stage
behind_primary Unseen = Unseen
behind_primary Start = Have Nucleus Unlimited
behind_primary (Have p l) = Have Nucleus Unlimited
behind_primary (Want p l) = Have p l

abbrev pub sub_behind : Role → Limit → Step
sub_behind Nucleus l = On (Want Subscript l)
sub_behind Subscript l = Stuck
sub_behind Superscript l = Stuck

abbrev pub sup_behind : Role → Limit → Step
sup_behind Nucleus l = On (Want Superscript l)
sup_behind Subscript l = On (Want Superscript l)
sup_behind Superscript l = Stuck

abbrev pub from_behind : Limit → Step
from_behind Unlimited = On (Want Nucleus Lower)
from_behind Lower = Stuck
from_behind Upper = Stuck

abbrev pub to_behind : Limit → Step
to_behind Unlimited = On (Want Nucleus Upper)
to_behind Lower = On (Want Nucleus Upper)
to_behind Upper = Stuck

abbrev pub joined_by : Keyword → Role → Limit → Step
joined_by Sub p l = sub_behind p l
joined_by Sup p l = sup_behind p l
joined_by Over p l = On (Want Nucleus l)
joined_by From p l = from_behind l
joined_by To p l = to_behind l

abbrev pub behind_keyword : Keyword → Stage → Step
behind_keyword j Unseen = On Unseen
behind_keyword j Start = Stuck
behind_keyword j (Have p l) = joined_by j p l
behind_keyword j (Want p l) = Stuck

abbrev pub is_wanting : Stage → Bool
is_wanting Unseen = false
is_wanting Start = false
is_wanting (Have p l) = false
is_wanting (Want p l) = true

abbrev pub closing_step : Stage → ℕ → Step
closing_step s d = cond (eqb d 0) Stuck (cond (is_wanting s) Stuck Out)

abbrev pub end_step : Stage → ℕ → Step
end_step s d = cond (eqb d 0) (cond (is_wanting s) Stuck Whole) Stuck

abbrev pub step_of : TokenKind → Stage → ℕ → Step
step_of Word s d = On (behind_primary s)
step_of (Joining k) s d = behind_keyword k s
step_of Open s d = In
step_of Close s d = closing_step s d
step_of Other s d = Stuck
step_of End s d = end_step s d
