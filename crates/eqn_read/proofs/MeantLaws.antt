-- What the parts of a derivation mean, and that their tokens tell which parts there are.
--     NotEmpty, some_append, overs_some, limited_some     an expression has tokens
--     as_overs, as_field      a script as an operand
--     field_bare, field_listed     the operand of one word or group is its own field, any other a list of the item
--     limits_item, item_plain, item_lower, item_upper     an expression without limits, and with some, where no operand is an empty field
-- By cases on the derivation, and the laws of where its tokens are cut.
-- Assumes nothing.
use mathlib.Core.Path.{◌≡◌, refl, sym, ap, ◌∙◌}
use mathlib.Core.Bool.{true, false, ◌&&◌, and-false, false≢true}
use mathlib.Core.List.{List, ◌∷◌, ◌++◌}
use mathlib.Core.Option.{Option}
use Rattle.laws.specs.Truths.{either}
use Rattle.eqn_tokens.specs.Tokens.{Token}
use Rattle.eqn_names.specs.Names.{Name}
use Rattle.formula.specs.declared.Class.TheVariants.{Op}
use Rattle.formula.specs.declared.Limits.TheVariants.{Always}
use Rattle.formula.specs.declared.Base.TheVariants.{Atom}
use Rattle.formula.specs.declared.Kind.TheVariants as kind
use Rattle.formula.specs.Tree.{Item, Field, noad, empty}
use Rattle.eqn_grammar.proofs.ReadLaws.{single_tokens}
use Rattle.eqn_grammar.specs.Grammar.{Limited, limited, NoOvers, no_overs, some_overs, Overs, single, fraction, Scripted, scripted, NoPrimary, no_primary, some_primary, Primary, named, braced, limited_tokens, overs_tokens, scripted_tokens, primary_tokens}
use Rattle.eqn_grammar.specs.Parsing.{bare}
use Rattle.eqn_grammar.specs.Splits.{last_outside}
use Rattle.eqn_grammar.specs.SplitLaws.{last_over, no_over, last_sup, no_sup, last_sub, no_sub, scripted_without_sup}
use Rattle.eqn_meaning.specs.Meaning.{Nucleus, is_absent, in_list, atom_of, limits_of, limited_item, limit_field, overs_operand, script_field, primary_nucleus}
use Rattle.eqn_meaning.specs.MeaningLaws.{primary_there}
use Rattle.eqn_read.specs.Values.{is_none, is_bare}
use Rattle.eqn_tokens.specs.declared.tokens.Keyword.TheVariants.{Sub, Sup, Over}

-- ---- tokens

abbrev pub NotEmpty : List Token → Type 0
NotEmpty ts = (t : Token) × (us : List Token) × (ts ≡ t ∷ us)

pub some_append : (ts us : List Token) → NotEmpty ts → NotEmpty (ts ++ us)
some_append ts us (t, vs, is) = (t, vs ++ us, ap (λ (l : List Token). l ++ us) is)

primary_some : (p : Primary) → NotEmpty (primary_tokens p)
unfolding primary_tokens
primary_some (named w) = (_, _, refl)
primary_some (braced r) = (_, _, refl)

pub overs_some : (o : Overs) → NotEmpty (overs_tokens o)
unfolding overs_tokens
overs_some (single (scripted p b q)) = some_append (primary_tokens p) _ (primary_some p)
overs_some (fraction o s) = some_append (overs_tokens o) _ (overs_some o)

pub limited_some : (l : Limited) → NotEmpty (limited_tokens l)
unfolding limited_tokens
limited_some (limited o f t) = some_append (overs_tokens o) _ (overs_some o)

-- ---- scripts as operands

abbrev pub as_overs : NoPrimary → NoOvers
as_overs no_primary = no_overs
as_overs (some_primary p) = some_overs (single (bare p))

module _ (ns : List Name) where
  pub as_field : (b : NoPrimary) → limit_field ns (as_overs b) ≡ script_field ns b
  unfolding limit_field atom_of
  as_field no_primary = refl
  as_field (some_primary p) = refl

  -- ---- operands

  atom_there : (n : Nucleus) (b q : Field) → is_absent n.field ≡ false → is_absent (atom_of n b q).field ≡ false
  unfolding atom_of
  atom_there n b q there = either (λ (f : Field). is_absent f ≡ false) (is_absent b && is_absent q) (λ e. there) (λ e. refl)

  field_there : (o : Overs) → is_absent (overs_operand ns o).field ≡ false
  unfolding overs_operand
  field_there (single (scripted p b q)) = atom_there (primary_nucleus ns p) (script_field ns b) (script_field ns q) (primary_there ns p)
  field_there (fraction o s) = refl

  -- an atom with a script
  atom_listed : (n : Nucleus) (b q : Field) → (is_absent b && is_absent q) ≡ false → (atom_of n b q).field ≡ in_list (atom_of n b q).item
  unfolding atom_of
  atom_listed n b q e = rw (e, atom_of)

  pub record Bare (o : Overs) : Type 0 where
    pub primary : Primary
    pub tokens : primary_tokens primary ≡ overs_tokens o
    pub field : (overs_operand ns o).field ≡ (primary_nucleus ns primary).field

  abbrev Listed : Overs → Type 0
  Listed o = (overs_operand ns o).field ≡ in_list (overs_operand ns o).item

  bare_single : (p : Primary) → Bare (single (bare p))
  unfolding overs_operand atom_of
  bare_single p = record { primary = p; tokens = sym (single_tokens p); field = refl }

  not_bare : (o : Overs) → is_bare (overs_tokens o) ≡ false → is_bare (overs_tokens o) ≡ true → ⊥
  not_bare o f t = false≢true (sym f ∙ t)

  told : (ts : List Token) {a b c : Option (List Token × List Token)} → last_outside Over ts ≡ a → last_outside Sup ts ≡ b →
      last_outside Sub ts ≡ c → is_bare ts ≡ (is_none a && is_none b && is_none c)
  told ts no_over no_sup no_sub = rw (no_over, no_sup, no_sub)

  over_told : (o : Overs) (s : Scripted) → is_bare (overs_tokens (fraction o s)) ≡ false
  over_told o s = rw last_over

  sup_told : (p : Primary) (b : NoPrimary) (q : Primary) → is_bare (overs_tokens (single (scripted p b (some_primary q)))) ≡ false
  unfolding overs_tokens
  sup_told p b q =
      let s = scripted p b (some_primary q) in
      told (scripted_tokens s) (no_over s) (last_sup p b q) refl

  sub_told : (p b : Primary) → is_bare (overs_tokens (single (scripted p (some_primary b) no_primary))) ≡ false
  unfolding overs_tokens
  sub_told p b =
      let s = scripted p (some_primary b) no_primary in
      told (scripted_tokens s) (no_over s) (no_sup p (some_primary b)) (ap (last_outside Sub) (scripted_without_sup p (some_primary b)) ∙ last_sub p b)

  none_told : (p : Primary) → is_bare (overs_tokens (single (bare p))) ≡ true
  unfolding overs_tokens
  none_told p = told (scripted_tokens (bare p)) (no_over (bare p)) (no_sup p no_primary) (ap (last_outside Sub) (scripted_without_sup p no_primary) ∙ no_sub p)

  pub field_bare : (o : Overs) → is_bare (overs_tokens o) ≡ true → Bare o
  field_bare (single (scripted p no_primary no_primary)) t = bare_single p
  field_bare (single (scripted p (some_primary b) no_primary)) t = absurd (not_bare _ (sub_told p b) t)
  field_bare (single (scripted p b (some_primary q))) t = absurd (not_bare _ (sup_told p b q) t)
  field_bare (fraction o s) t = absurd (not_bare _ (over_told o s) t)

  pub field_listed : (o : Overs) → is_bare (overs_tokens o) ≡ false → Listed o
  unfolding overs_operand
  field_listed (single (scripted p no_primary no_primary)) f = absurd (not_bare _ f (none_told p))
  field_listed (single (scripted p (some_primary b) no_primary)) f =
      atom_listed (primary_nucleus ns p) (primary_nucleus ns b).field empty (rw (primary_there ns b))
  field_listed (single (scripted p b (some_primary q))) f =
      atom_listed (primary_nucleus ns p) (script_field ns b) (primary_nucleus ns q).field (rw (primary_there ns q, and-false))
  field_listed (fraction o s) f = refl

  -- ---- limits

  pub item_plain : (o : Overs) → limited_item ns (limited o no_overs no_overs) ≡ (overs_operand ns o).item
  unfolding limited_item limits_of
  item_plain o = refl

  abbrev pub limits_item : Overs → NoOvers → NoOvers → Item
  limits_item o f t = noad (kind.Scripted (Atom Op Always)) (overs_operand ns o).field (limit_field ns t) (limit_field ns f)

  limited_by : (o : Overs) (f t : NoOvers) → (is_absent (limit_field ns f) && is_absent (limit_field ns t)) ≡ false →
      limited_item ns (limited o f t) ≡ limits_item o f t
  unfolding limited_item limits_of
  limited_by o f t e = rw (e, limits_of)

  pub item_lower : (o f : Overs) (t : NoOvers) → limited_item ns (limited o (some_overs f) t) ≡ limits_item o (some_overs f) t
  unfolding limit_field
  item_lower o f t = limited_by o (some_overs f) t (rw (field_there f))

  pub item_upper : (o : Overs) (f : NoOvers) (t : Overs) → limited_item ns (limited o f (some_overs t)) ≡ limits_item o f (some_overs t)
  unfolding limit_field
  item_upper o f t = limited_by o f (some_overs t) (rw (field_there t, and-false))
