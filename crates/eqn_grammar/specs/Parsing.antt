-- The reading of tokens, one after the other: what has been read so far is a derivation with an open end, in braces that are not closed yet.
--     Level         a row that is being read: nothing of it yet; a last expression, which may go on; or one behind which a keyword
--                   stands that wants an operand
--     Reading       the level that is being read, and those around it
--     read st t     one token more, if some text of the grammar goes on with it
--     parse ts      the derivation of some tokens, or how many stand before the first that can continue no text of the grammar, or
--                   before the end
-- That this is what the grammar says is shown in `ParsingLaws`.
-- Assumes nothing.
use Rattle.std.specs.Prelude.{Bool, true, false, List, [], ◌∷◌, ℕ, suc}
use Rattle.std.proofs.Math.Option.{Option, none, some}
use Rattle.eqn_tokens.specs.Tokens.{Token, word, keyword, opening, closing, other}
use Rattle.eqn_grammar.specs.Grammar.{Row, nil, beside, Limited, limited, no_overs, some_overs, Overs, single, fraction, Scripted, scripted, no_primary, some_primary, Primary, named, braced}
use Rattle.eqn_tokens.specs.declared.tokens.Keyword.{Keyword}
use Rattle.eqn_tokens.specs.declared.tokens.Keyword.TheVariants.{Sub, Sup, Over, From, To}

-- ---- derivations with an open end

abbrev pub bare : Primary → Scripted
bare p = scripted p no_primary no_primary

abbrev pub alone : Primary → Limited
alone p = limited (single (bare p)) no_overs no_overs

-- a row with one expression more
unfoldable pub with_last : Row → Limited → Row
with_last nil l = beside l nil
with_last (beside k r) l = beside k (with_last r l)

abbrev pub on_scripted : (Scripted → Scripted) → Overs → Overs
on_scripted f (single s) = single (f s)
on_scripted f (fraction o s) = fraction o (f s)

-- the part of an expression that may go on: the last one that is there
abbrev pub on_open : (Overs → Overs) → Limited → Limited
on_open g (limited o no_overs no_overs) = limited (g o) no_overs no_overs
on_open g (limited o (some_overs f) no_overs) = limited o (some_overs (g f)) no_overs
on_open g (limited o f (some_overs t)) = limited o f (some_overs (g t))

abbrev pub with_sub : Primary → Scripted → Scripted
with_sub x (scripted p b q) = scripted p (some_primary x) q

abbrev pub with_sup : Primary → Scripted → Scripted
with_sup x (scripted p b q) = scripted p b (some_primary x)

-- with one operand more, behind a keyword
unfoldable pub joined : Keyword → Primary → Limited → Limited
joined Sub x l = on_open (on_scripted (with_sub x)) l
joined Sup x l = on_open (on_scripted (with_sup x)) l
joined Over x l = on_open (λ o. fraction o (bare x)) l
joined From x (limited o f t) = limited o (some_overs (single (bare x))) t
joined To x (limited o f t) = limited o f (some_overs (single (bare x)))

-- ---- which keywords may follow

-- the last operand of the last fraction's part: a word or group itself, its subscript or its superscript
pub data Role : Type 0 where
  nucleus subscript superscript : Role

-- the last of an expression and its limits
pub data Limit : Type 0 where
  unlimited lower upper : Limit

abbrev pub role_of : Scripted → Role
role_of (scripted p no_primary no_primary) = nucleus
role_of (scripted p (some_primary b) no_primary) = subscript
role_of (scripted p b (some_primary q)) = superscript

abbrev pub last_scripted : Overs → Scripted
last_scripted (single s) = s
last_scripted (fraction o s) = s

abbrev pub open_overs : Limited → Overs
open_overs (limited o no_overs no_overs) = o
open_overs (limited o (some_overs f) no_overs) = f
open_overs (limited o f (some_overs t)) = t

abbrev pub open_role : Limited → Role
open_role l = role_of (last_scripted (open_overs l))

abbrev pub limit_of : Limited → Limit
limit_of (limited o no_overs no_overs) = unlimited
limit_of (limited o (some_overs f) no_overs) = lower
limit_of (limited o f (some_overs t)) = upper

-- `sub` comes before `sup`, `from` before `to`, each at most once
unfoldable pub may_follow : Keyword → Role → Limit → Bool
may_follow Sub nucleus l = true
may_follow Sub subscript l = false
may_follow Sub superscript l = false
may_follow Sup nucleus l = true
may_follow Sup subscript l = true
may_follow Sup superscript l = false
may_follow Over p l = true
may_follow From p unlimited = true
may_follow From p lower = false
may_follow From p upper = false
may_follow To p unlimited = true
may_follow To p lower = true
may_follow To p upper = false

-- ---- reading

pub data Level : Type 0 where
  fresh : Level
  having : Row → Limited → Level
  wanting : Row → Limited → Keyword → Level

pub record Reading : Type 0 where
  pub level : Level
  pub around : List Level

-- a word or a group: a keyword's operand, or an expression of its own
unfoldable pub taking : Level → Primary → Level
taking fresh x = having nil (alone x)
taking (having r l) x = having (with_last r l) (alone x)
taking (wanting r l j) x = having r (joined j x l)

unfoldable pub joining : Keyword → Level → Option Level
joining j fresh = none
joining j (having r l) = elim (may_follow j (open_role l) (limit_of l)) [ true ↦ some (wanting r l j) | false ↦ none ]
joining j (wanting r l k) = none

-- the row, where no operand is wanted
unfoldable pub ended : Level → Option Row
ended fresh = some nil
ended (having r l) = some (with_last r l)
ended (wanting r l j) = none

abbrev pub on_level : List Level → Option Level → Option Reading
on_level ls none = none
on_level ls (some l) = some (record { level = l; around = ls })

-- back to the level around a row that has been closed
abbrev pub out_of : List Level → Option Row → Option Reading
out_of ls none = none
out_of [] (some r) = none
out_of (l ∷ ls) (some r) = some (record { level = taking l (braced r); around = ls })

unfoldable pub read : Reading → Token → Option Reading
read st (word w) = some (record { level = taking st.level (named w); around = st.around })
read st (keyword k) = on_level st.around (joining k st.level)
read st opening = some (record { level = fresh; around = st.level ∷ st.around })
read st closing = out_of st.around (ended st.level)
read st (other b) = none

-- ---- the derivation of a text

pub data Parsed : Type 0 where
  whole : Row → Parsed
  stuck : ℕ → Parsed

abbrev pub one_later : Parsed → Parsed
one_later (whole r) = whole r
one_later (stuck n) = stuck (suc n)

abbrev pub at_end : List Level → Option Row → Parsed
at_end ls none = stuck 0
at_end [] (some r) = whole r
at_end (l ∷ ls) (some r) = stuck 0

-- the rest, if the token before it could be read
unfoldable pub parse_then : (Reading → Parsed) → Option Reading → Parsed
parse_then R none = stuck 0
parse_then R (some st) = one_later (R st)

unfoldable pub parse_from : Reading → List Token → Parsed
parse_from st [] = at_end st.around (ended st.level)
parse_from st (t ∷ ts) = parse_then (λ after. parse_from after ts) (read st t)

abbrev pub begun : Reading
begun = record { level = fresh; around = [] }

unfoldable pub parse : List Token → Parsed
parse ts = parse_from begun ts
