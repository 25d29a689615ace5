-- The tokens of the items that the reader makes, by their form.
--     scripted_tokens_lem       of a nucleus and two scripts, the lower first: one law for scripts and for limits
--     atom_tokens, limits_tokens, limitless     so of an atom and of an operator; of an operator without limits there are none
--     fraction_tokens_lem       of a fraction
--     script_nothing, script_behind     a script that is not there, and one that is
--     group_asked, group_barred     a list in braces, for a class
-- By cases: a field is nothing, an operand or textless.
-- Assumes nothing.
use mathlib.Core.Path.{◌≡◌, refl, ap, ap₂, ◌∙◌}
use Rattle.std.specs.Prelude.{Option as CodeOption, Some, None}
use mathlib.Core.Bool.{true, false, true≢false}
use mathlib.Core.List.{List, [], ◌∷◌, ◌++◌, append-nil}
use mathlib.Core.Option.{Option, none, some}
use Prim.Native.Nat.{ℕ}
use Rattle.eqn_tokens.specs.Tokens.{Token, keyword}
use Rattle.eqn_names.specs.Names.{asked_as}
use Rattle.eqn_grammar.specs.Grammar as grammar
use Rattle.eqn_grammar.specs.Grammar.{Row, Limited, NoPrimary, no_primary, some_primary, Primary, limited_tokens, limit_tokens, overs_tokens, scripted_tokens, script_tokens, primary_tokens}
use Rattle.eqn_grammar.proofs.ReadLaws.{single_tokens}
use Rattle.eqn_meaning.specs.Writing.{Derived, nothing, operand, textless, as_group, group_for, with_script, with_operand, single, limit, atom_derived, limits_on, limits_derived, fraction_derived}
use Rattle.eqn_write.specs.Values.{takes_group}
use Rattle.eqn_write.specs.Writes.{joined, of_operand, of_script, of_item}
use Rattle.eqn_tokens.specs.declared.tokens.Keyword.TheVariants.{Sub, Sup, Over, From, To}
use Rattle.eqn_tokens.specs.declared.tokens.Keyword.{Keyword}

-- ---- a nucleus and scripts

abbrev as_derived : NoPrimary → Derived
as_derived no_primary = nothing
as_derived (some_primary p) = operand p

module _ (lower upper : Keyword) (f : Primary → NoPrimary → NoPrimary → Option Limited) where
  -- of what the fields are, f makes an item with these tokens
  abbrev Makes : Derived → Derived → Type 0
  Makes y z =
      (p : Primary) (b q : NoPrimary) → z ≡ as_derived b → y ≡ as_derived q →
      of_item (f p b q) ≡ some (primary_tokens p ++ (script_tokens lower b ++ script_tokens upper q))

  scripted_tokens_lem : (x y z : Derived) → Makes y z →
      of_item (with_operand (λ p. with_script (λ q. with_script (λ b. f p b q) z) y) x) ≡ joined (of_operand x) (joined (of_script (keyword lower) z) (of_script (keyword upper) y))
  unfolding script_tokens
  scripted_tokens_lem nothing y z m = refl
  scripted_tokens_lem textless y z m = refl
  scripted_tokens_lem (operand p) nothing nothing m = m p no_primary no_primary refl refl
  scripted_tokens_lem (operand p) nothing (operand b) m = m p (some_primary b) no_primary refl refl
  scripted_tokens_lem (operand p) nothing textless m = refl
  scripted_tokens_lem (operand p) (operand q) nothing m = m p no_primary (some_primary q) refl refl
  scripted_tokens_lem (operand p) (operand q) (operand b) m = m p (some_primary b) (some_primary q) refl refl
  scripted_tokens_lem (operand p) (operand q) textless m = refl
  scripted_tokens_lem (operand p) textless nothing m = refl
  scripted_tokens_lem (operand p) textless (operand b) m = refl
  scripted_tokens_lem (operand p) textless textless m = refl

pub atom_tokens : (x y z : Derived) → of_item (atom_derived x y z) ≡ joined (of_operand x) (joined (of_script (keyword Sub) z) (of_script (keyword Sup) y))
unfolding limited_tokens limit_tokens overs_tokens scripted_tokens
atom_tokens x y z =
    scripted_tokens_lem Sub Sup (λ p b q. some (grammar.limited (grammar.single (grammar.scripted p b q)) grammar.no_overs grammar.no_overs)) x y z
    (λ p b q e g. ap some (append-nil (primary_tokens p ++ (script_tokens Sub b ++ script_tokens Sup q))))

limit_tokens_lem : (k : Keyword) (p : NoPrimary) → limit_tokens k (limit p) ≡ script_tokens k p
unfolding limit_tokens script_tokens
limit_tokens_lem k no_primary = refl
limit_tokens_lem k (some_primary p) = ap (λ (ts : List Token). keyword k ∷ ts) (single_tokens p)

limited_tokens_lem : (p : Primary) (b q : NoPrimary) →
    limited_tokens (grammar.limited (single p) (limit b) (limit q)) ≡ primary_tokens p ++ (script_tokens From b ++ script_tokens To q)
unfolding limited_tokens
limited_tokens_lem p b q = ap₂ ◌++◌ (single_tokens p) (ap₂ ◌++◌ (limit_tokens_lem From b) (limit_tokens_lem To q))

pub limits_tokens : (x y z : Derived) → (y ≡ nothing → z ≡ nothing → ⊥) →
    of_item (limits_derived x y z) ≡ joined (of_operand x) (joined (of_script (keyword From) z) (of_script (keyword To) y))
limits_tokens x y z some_there = scripted_tokens_lem From To limits_on x y z made
  where
    made : Makes From To limits_on y z
    made p no_primary no_primary e g = absurd (some_there g e)
    made p no_primary (some_primary q) e g = ap some (limited_tokens_lem p no_primary (some_primary q))
    made p (some_primary b) q e g = ap some (limited_tokens_lem p (some_primary b) q)

pub limitless : (x y z : Derived) → y ≡ nothing → z ≡ nothing → of_item (limits_derived x y z) ≡ none
limitless nothing y z e g = refl
limitless (operand p) y z e g = rw (e, g)
limitless textless y z e g = refl

pub fraction_tokens_lem : (x y : Derived) → of_item (fraction_derived x y) ≡ joined (of_operand x) (joined (some (keyword Over ∷ [])) (of_operand y))
unfolding limited_tokens limit_tokens overs_tokens
fraction_tokens_lem nothing y = refl
fraction_tokens_lem (operand p) nothing = refl
fraction_tokens_lem (operand p) (operand q) =
    ap some (append-nil (overs_tokens (single p) ++ keyword Over ∷ overs_tokens (single q)) ∙ ap₂ (λ (a b : List Token). a ++ keyword Over ∷ b) (single_tokens p) (single_tokens q))
fraction_tokens_lem (operand p) textless = refl
fraction_tokens_lem textless y = refl

-- ---- a script

pub script_nothing : (k : Token) (d : Derived) → d ≡ nothing → of_script k d ≡ some []
script_nothing k d e = rw e

pub script_behind : (k : Token) (d : Derived) → (d ≡ nothing → ⊥) → of_script k d ≡ joined (some (k ∷ [])) (of_operand d)
script_behind k nothing there = absurd (there refl)
script_behind k (operand p) there = refl
script_behind k textless there = refl

-- ---- a list in braces

module _ (o : Option Row) where
  pub group_asked : (class : CodeOption ℕ) → takes_group class ≡ true → group_for (asked_as class) o ≡ as_group o
  group_asked None e = refl
  group_asked (Some class) e = rw (e, group_for)

  pub group_barred : (class : CodeOption ℕ) → takes_group class ≡ false → group_for (asked_as class) o ≡ textless
  group_barred None e = absurd (true≢false e)
  group_barred (Some class) e = rw (e, group_for)
