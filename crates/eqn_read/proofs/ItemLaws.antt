-- An item: what is promised of it follows from what is promised of the slices that it is cut into. There is a law for where all has been
-- written (`-done`) and for each place where a part was too large (`-stop`, or the name of the part); each says too that the place
-- reached lies onward.
--     FieldsBegun, fields_first, fields_second, fields_done     nucleus and scripts
--     AtomOpened, atom_stop, atom_done          a word or a group with its scripts
--     OverOpened, over_stop, OverBegun, over_first, over_done, over_single     a fraction, or none
--     ItemOpened, item_stop, item_done, item_whole     an expression with its limits, or without
-- Assumes nothing.
use Rattle.std.specs.Prelude.{Option, Some, None}
use mathlib.Core.Path.{◌≡◌, sym, ap, ◌∙◌}
use mathlib.Core.Bool.{Bool, true, ◌&&◌, and-true, and_assoc}
use mathlib.Core.List.{List, [], ◌∷◌, ◌++◌, append-nil}
use Prim.Native.Nat.{ℕ, ◌+◌, ◌-◌, ◌≤◌}
use native.Mathlib.Omega.{arith}
use lib.ListN.{length, take, drop}
use lib.Seq.{sets, take-length}
use Rattle.eqn_tokens.specs.Tokens.{tokens_in}
use Rattle.eqn_tokens.specs.BytesLaws.{rest_lent}
use Rattle.eqn_names.specs.declared.NameIndex.{NameIndex}
use Rattle.eqn_names.specs.Names.{Name}
use Rattle.eqn_names.specs.Firsts.{Listed}
use Rattle.formula.specs.declared.Bar.TheVariants.{Default}
use Rattle.formula.specs.declared.Base.{Base}
use Rattle.formula.specs.declared.Base.TheVariants.{Atom}
use Rattle.formula.specs.declared.Class.TheVariants.{Op}
use Rattle.formula.specs.declared.Limits.TheVariants.{DisplayOnly, Always}
use Rattle.formula.specs.declared.Kind.TheVariants as kind
use Rattle.formula.specs.Tree.{noad, Field, empty}
use Rattle.formula.specs.Heads.{class_number}
use Rattle.formula_spelling.specs.Spelling.{kind_spelling, item_spelling, field_spelling}
use Rattle.eqn_grammar.proofs.ReadLaws.{single_tokens}
use Rattle.eqn_grammar.specs.Grammar.{limited, NoOvers, no_overs, some_overs, Overs, single, fraction, Scripted, scripted, Primary, limited_tokens, overs_tokens, primary_tokens}
use Rattle.eqn_grammar.specs.Parsing.{bare}
use Rattle.eqn_meaning.specs.Meaning.{fraction_item, limited_item, limit_field, overs_operand, scripted_operand, script_field, primary_nucleus, item_within, field_within, atom_of}
use Rattle.eqn_cuts.specs.declared.Split.{Split}
use Rattle.eqn_cuts.specs.Values.{SplitAt}
use Rattle.eqn_stores.specs.Values.{Ends}
use Rattle.eqn_read.specs.Values.{Onward, Wrote, ItemMade, OverMade, AtomMade, OperandMade, ScriptMade, FieldsMade, ClassFound}
use Rattle.eqn_read.proofs.WroteLaws.{goes, reached, onward_from, onward_stop, ends_wrote, wrote_then, wrote_stop}
use Rattle.eqn_read.proofs.MeantLaws.{as_overs, as_field, item_plain, limits_item, item_lower, item_upper}
use Rattle.eqn_read.proofs.CutLaws.{CutSlices, limited_slices, scripted_slices, single_slices, fraction_slices}
use Rattle.eqn_tokens.specs.declared.tokens.Keyword.TheVariants.{Sub, Sup, Over, From, To}

-- ---- an item behind its opening

module _ (levels at : ℕ) (o o₁ : List ℕ) (h : Option ℕ) (x y z : Field) where
  abbrev Three : ℕ → List ℕ → Option ℕ → Type 0
  Three e o₂ q =
      Wrote (field_within x levels && field_within y levels && field_within z levels) (field_spelling x ++ (field_spelling y ++ field_spelling z))
      e o₁ o₂ q

  module _ (base : Base) (head : Wrote true (kind_spelling (kind.Scripted base)) at o o₁ h) where
    abbrev ScriptedWrote : List ℕ → Option ℕ → Type 0
    ScriptedWrote o₂ q =
        let i = noad (kind.Scripted base) x y z in Wrote (item_within i levels) (item_spelling i) at o o₂ q

    scripted_stop : h ≡ None → ScriptedWrote o₁ h
    unfolding item_within item_spelling
    scripted_stop is = wrote_stop true (kind_spelling (kind.Scripted base)) at o o₁ _ _ is head

    scripted_then : {e : ℕ} (o₂ : List ℕ) (q : Option ℕ) → h ≡ Some e → Three e o₂ q → ScriptedWrote o₂ q
    unfolding item_within item_spelling
    scripted_then o₂ q is fields = wrote_then true (kind_spelling (kind.Scripted base)) at o o₁ _ _ o₂ q is head fields

-- ---- nucleus and scripts

module _ (index : NameIndex) (nucleus superscript subscript : List ℕ) (levels at : ℕ) (o o₁ : List ℕ) (q : Option ℕ) where
  pub fields_first : OperandMade index nucleus levels at o o₁ q → q ≡ None →
      Onward at q × FieldsMade index nucleus superscript subscript levels at o o₁ q
  fields_first first is = (
    onward_stop at is,
    λ ns records d y z stands above below. rw and_assoc (wrote_stop _ _ at o o₁ _ _ is (first ns records d stands)),
  )

-- behind the first field the second has been put
pub record FieldsBegun (index : NameIndex) (nucleus superscript subscript : List ℕ) (levels at : ℕ) (o : List ℕ) (q : Option ℕ) (o₁ : List ℕ) (e : ℕ) (p : Option ℕ) (o₂ : List ℕ) : Type 0 where
  pub first : Onward at q × OperandMade index nucleus levels at o o₁ q
  pub is : q ≡ Some e
  pub second : Onward e p × ScriptMade index superscript levels e o₁ o₂ p

module _ {index : NameIndex} {nucleus superscript subscript : List ℕ} {levels at : ℕ} {o : List ℕ} {q : Option ℕ} {o₁ : List ℕ} {e : ℕ} {p : Option ℕ} {o₂ : List ℕ} (f : FieldsBegun index nucleus superscript subscript levels at o q o₁ e p o₂) where
  pub fields_second : p ≡ None → Onward at p × FieldsMade index nucleus superscript subscript levels at o o₂ p
  fields_second large = (
    onward_stop at large,
    λ ns records d y z stands above below.
        rw and_assoc
        (wrote_then _ _ at o o₁ _ _ o₂ p f.is (f.first.1 ns records d stands)
        (wrote_stop _ _ e o₁ o₂ _ _ large (f.second.1 ns records y above))),
  )

  pub fields_done : {n : ℕ} (o₃ : List ℕ) (r : Option ℕ) → p ≡ Some n → Onward n r × ScriptMade index subscript levels n o₂ o₃ r →
      Onward at r × FieldsMade index nucleus superscript subscript levels at o o₃ r
  fields_done {n} o₃ r next third = (
    onward_from at n r (omega (arith, goes at f.is f.first.0, goes e next f.second.0)) third.0,
    λ ns records d y z stands above below.
        rw and_assoc
        (wrote_then _ _ at o o₁ _ _ o₃ r f.is (f.first.1 ns records d stands)
        (wrote_then _ _ e o₁ o₂ _ _ o₃ r next (f.second.1 ns records y above) (third.1 ns records z below))),
  )

-- the fields of a text that is cut twice
abbrev CutFields : NameIndex → List ℕ → ℕ → Split → Split → ℕ → List ℕ → List ℕ → Option ℕ → Type 0
CutFields index s levels last first e o₁ o₂ r =
    Onward e r
    × FieldsMade index (take first.start s) (take (length s - last.end) (drop last.end s))
    (take (last.start - first.end) (drop first.end s)) levels e o₁ o₂ r

opened_onward : {at n : ℕ} {h : Option ℕ} {e : ℕ} (r : Option ℕ) → at ≤ n → Ends n h → h ≡ Some e → Onward e r → Onward at r
opened_onward {at} {n} {e = e} r below ends is onward = onward_from at e r (omega (arith, reached n is ends)) onward

-- ---- a word or a group with its scripts

pub record AtomOpened (index : NameIndex) (s : List ℕ) (levels at : ℕ) (o : List ℕ) (last first : Split) (class : ℕ) (h : Option ℕ) (o₁ : List ℕ) : Type 0 where
  pub at_sup : SplitAt s Sup last
  pub at_sub : SplitAt (take last.start s) Sub first
  pub found : ClassFound index (take first.start s) class
  pub opening : Ends (at + 4) h × (o₁ ≡ sets o at (65 ∷ 84 ∷ class ∷ 0 ∷ []))

module _ {index : NameIndex} {s : List ℕ} {levels at : ℕ} {o : List ℕ} {last first : Split} {class : ℕ} {h : Option ℕ} {o₁ : List ℕ} (a : AtomOpened index s levels at o last first class h o₁) where
  abbrev atom_base : (ns : List Name) → Primary → Base
  atom_base ns p = Atom (primary_nucleus ns p).class DisplayOnly

  atom_head : (ns : List Name) → Listed index.names.now index.firsts.now ns → (p : Primary) → primary_tokens p ≡ tokens_in (take first.start s) →
      Wrote true (kind_spelling (kind.Scripted (Atom (primary_nucleus ns p).class DisplayOnly))) at o o₁ h
  atom_head ns records p front =
      ends_wrote (65 ∷ 84 ∷ class_number (primary_nucleus ns p).class ∷ 0 ∷ []) at o h a.opening.0
      (a.opening.1 ∙ ap (λ (c : ℕ). sets o at (65 ∷ 84 ∷ c ∷ 0 ∷ [])) (a.found ns records p front))

  stopped_atom : h ≡ None → AtomMade index s levels at o o₁ h
  unfolding scripted_operand atom_of
  stopped_atom is ns records (scripted p b q) tokens =
      scripted_stop levels at o o₁ h (primary_nucleus ns p).field (script_field ns q) (script_field ns b) (atom_base ns p)
      (atom_head ns records p (scripted_slices a.at_sup a.at_sub p b q tokens).front) is

  made_atom : {e : ℕ} (o₂ : List ℕ) (r : Option ℕ) → h ≡ Some e → CutFields index s levels last first e o₁ o₂ r → AtomMade index s levels at o o₂ r
  unfolding scripted_operand atom_of
  made_atom o₂ r is fields ns records (scripted p b q) tokens =
      let slices = scripted_slices a.at_sup a.at_sub p b q tokens in
      let three = fields.1 ns records (single (bare p)) (as_overs q) (as_overs b) (single_tokens p ∙ slices.front) slices.outer slices.inner in
      scripted_then levels at o o₁ h (primary_nucleus ns p).field (script_field ns q) (script_field ns b) (atom_base ns p)
      (atom_head ns records p slices.front) o₂ r is (rw (as_field ns q, as_field ns b) at three)

  pub atom_stop : h ≡ None → Onward at h × AtomMade index s levels at o o₁ h
  atom_stop is = (onward_stop at is, stopped_atom is)

  pub atom_done : {e : ℕ} (o₂ : List ℕ) (r : Option ℕ) → h ≡ Some e → CutFields index s levels last first e o₁ o₂ r →
      Onward at r × AtomMade index s levels at o o₂ r
  atom_done o₂ r is fields = (opened_onward r (omega arith) a.opening.0 is fields.0, made_atom o₂ r is fields)

-- ---- a fraction

module _ (index : NameIndex) {s : List ℕ} {r : Split} (split : SplitAt s Over r) (levels at : ℕ) (o o₁ : List ℕ) (q : Option ℕ) where
  not_cut : r.start ≡ length s → AtomMade index s levels at o o₁ q → OverMade index s levels at o o₁ q
  unfolding overs_tokens overs_operand
  not_cut end atom ns records (single c) tokens = atom ns records c tokens
  not_cut end atom ns records (fraction u c) tokens = absurd (omega (arith, (fraction_slices split u c tokens).placed))

  pub over_single : r.start ≡ length s → Onward at q × AtomMade index s levels at o o₁ q → Onward at q × OverMade index s levels at o o₁ q
  over_single end atom = (atom.0, not_cut end atom.1)

pub record OverOpened (index : NameIndex) (s : List ℕ) (levels at : ℕ) (o : List ℕ) (r : Split) (h : Option ℕ) (o₁ : List ℕ) : Type 0 where
  pub split : SplitAt s Over r
  pub there : r.start ≡ length s → ⊥
  pub opening : Ends (at + 3) h × (o₁ ≡ sets o at (70 ∷ 82 ∷ 0 ∷ []))

module _ {index : NameIndex} {s : List ℕ} {levels at : ℕ} {o : List ℕ} {r : Split} {h : Option ℕ} {o₁ : List ℕ} (p : OverOpened index s levels at o r h o₁) where
  over_head : Wrote true (70 ∷ 82 ∷ 0 ∷ []) at o o₁ h
  over_head = ends_wrote (70 ∷ 82 ∷ 0 ∷ []) at o h p.opening.0 p.opening.1

  -- of both operands
  both_made : (o₂ : List ℕ) (q : Option ℕ) →
      ((ns : List Name) → Listed index.names.now index.firsts.now ns → (u : Overs) (c : Scripted) → CutSlices s r (overs_tokens u) (some_overs (single c)) →
      let i = fraction_item (overs_operand ns u) (scripted_operand ns c) in Wrote (item_within i levels) (item_spelling i) at o o₂ q) →
      OverMade index s levels at o o₂ q
  unfolding overs_operand
  both_made o₂ q made ns records (single c) tokens = absurd (p.there (single_slices p.split c tokens))
  both_made o₂ q made ns records (fraction u c) tokens = made ns records u c (fraction_slices p.split u c tokens)

  stopped_over : h ≡ None → OverMade index s levels at o o₁ h
  unfolding item_within item_spelling
  stopped_over is = both_made o₁ h (λ ns records u c slices. wrote_stop true (70 ∷ 82 ∷ 0 ∷ []) at o o₁ _ _ is over_head)

  pub over_stop : h ≡ None → Onward at h × OverMade index s levels at o o₁ h
  over_stop is = (onward_stop at is, stopped_over is)

  -- behind the opening; there is no third field
  without_third : (u v : Bool) (a b : List ℕ) (e : ℕ) (o₂ : List ℕ) (q : Option ℕ) → Wrote (u && v) (a ++ b) e o₁ o₂ q →
      Wrote (u && v && true) (a ++ (b ++ [])) e o₁ o₂ q
  without_third u v a b e o₂ q wrote = rw (and-true, append-nil) wrote

  behind_opening : (x y : Field) {e : ℕ} (o₂ : List ℕ) (q : Option ℕ) → h ≡ Some e →
      Wrote (field_within x levels && field_within y levels) (field_spelling x ++ field_spelling y) e o₁ o₂ q →
      let i = noad (kind.Fraction Default) x y empty in Wrote (item_within i levels) (item_spelling i) at o o₂ q
  unfolding item_within item_spelling
  behind_opening x y {e} o₂ q is fields =
      wrote_then true (70 ∷ 82 ∷ 0 ∷ []) at o o₁ _ _ o₂ q is over_head
      (without_third (field_within x levels) (field_within y levels) (field_spelling x) (field_spelling y) e o₂ q fields)

-- behind the opening the numerator has been put
pub record OverBegun (index : NameIndex) (s : List ℕ) (levels at : ℕ) (o : List ℕ) (r : Split) (h : Option ℕ) (o₁ : List ℕ) (e : ℕ) (q : Option ℕ) (o₂ : List ℕ) : Type 0 where
  pub opened : OverOpened index s levels at o r h o₁
  pub is : h ≡ Some e
  pub above : Onward e q × OperandMade index (take r.start s) levels e o₁ o₂ q

module _ {index : NameIndex} {s : List ℕ} {levels at : ℕ} {o : List ℕ} {r : Split} {h : Option ℕ} {o₁ : List ℕ} {e : ℕ} {q : Option ℕ} {o₂ : List ℕ} (p : OverBegun index s levels at o r h o₁ e q o₂) where
  pub over_first : q ≡ None → Onward at q × OverMade index s levels at o o₂ q
  over_first large = (
    onward_stop at large,
    both_made p.opened o₂ q
        (λ ns records u c slices.
        behind_opening p.opened (overs_operand ns u).field (scripted_operand ns c).field o₂ q p.is
        (wrote_stop _ _ e o₁ o₂ _ _ large (p.above.1 ns records u slices.front))),
  )

  abbrev Below : ℕ → List ℕ → Option ℕ → Type 0
  Below n o₃ d = Onward n d × OperandMade index (take (length s - r.end) (drop r.end s)) levels n o₂ o₃ d

  made_over : {n : ℕ} (o₃ : List ℕ) (d : Option ℕ) → q ≡ Some n → Below n o₃ d → OverMade index s levels at o o₃ d
  unfolding overs_operand
  made_over o₃ d next below =
      both_made p.opened o₃ d
      (λ ns records u c slices.
      behind_opening p.opened (overs_operand ns u).field (scripted_operand ns c).field o₃ d p.is
      (wrote_then _ _ e o₁ o₂ _ _ o₃ d next (p.above.1 ns records u slices.front)
      (below.1 ns records (single c) (slices.behind ∙ ap tokens_in (sym (rest_lent r.end s))))))

  pub over_done : {n : ℕ} (o₃ : List ℕ) (d : Option ℕ) → q ≡ Some n → Below n o₃ d → Onward at d × OverMade index s levels at o o₃ d
  over_done {n} o₃ d next below = (
    opened_onward d (omega arith) p.opened.opening.0 p.is (onward_from e n d (goes e next p.above.0).0 below.0),
    made_over o₃ d next below,
  )

-- ---- an expression with its limits

module _ (index : NameIndex) {s : List ℕ} {last first : Split} (at_to : SplitAt s To last) (at_from : SplitAt (take last.start s) From first) (levels at : ℕ) (o o₁ : List ℕ) (q : Option ℕ) where
  no_limits_lem : first.start ≡ length s → OverMade index s levels at o o₁ q → ItemMade index s levels at o o₁ q
  no_limits_lem end over ns records (limited u no_overs no_overs) tokens =
      let front = (limited_slices at_to at_from u no_overs no_overs tokens).front in
      rw (item_plain ns u) (over ns records u (rw (end, take-length) at front))
  no_limits_lem end over ns records (limited u (some_overs f) t) tokens =
      let slices = limited_slices at_to at_from u (some_overs f) t tokens in
      absurd (omega (arith, slices.middle, at_to.ordered, at_to.within))
  no_limits_lem end over ns records (limited u no_overs (some_overs t)) tokens =
      let slices = limited_slices at_to at_from u no_overs (some_overs t) tokens in
      absurd (omega (arith, slices.middle, slices.end))

  pub item_whole : first.start ≡ length s → Onward at q × OverMade index s levels at o o₁ q → Onward at q × ItemMade index s levels at o o₁ q
  item_whole end over = (over.0, no_limits_lem end over.1)

pub record ItemOpened (index : NameIndex) (s : List ℕ) (levels at : ℕ) (o : List ℕ) (last first : Split) (h : Option ℕ) (o₁ : List ℕ) : Type 0 where
  pub at_to : SplitAt s To last
  pub at_from : SplitAt (take last.start s) From first
  pub there : first.start ≡ length s → ⊥
  pub opening : Ends (at + 4) h × (o₁ ≡ sets o at (65 ∷ 84 ∷ 1 ∷ 1 ∷ []))

module _ {index : NameIndex} {s : List ℕ} {levels at : ℕ} {o : List ℕ} {last first : Split} {h : Option ℕ} {o₁ : List ℕ} (p : ItemOpened index s levels at o last first h o₁) where
  item_head : Wrote true (65 ∷ 84 ∷ 1 ∷ 1 ∷ []) at o o₁ h
  item_head = ends_wrote (65 ∷ 84 ∷ 1 ∷ 1 ∷ []) at o h p.opening.0 p.opening.1

  with_limits : (ns : List Name) (u : Overs) (f t : NoOvers) → limited_tokens (limited u f t) ≡ tokens_in s →
      limited_item ns (limited u f t) ≡ limits_item ns u f t
  with_limits ns u no_overs no_overs tokens =
      let slices = limited_slices p.at_to p.at_from u no_overs no_overs tokens in
      absurd (p.there (slices.middle ∙ slices.end))
  with_limits ns u (some_overs f) t tokens = item_lower ns u f t
  with_limits ns u no_overs (some_overs t) tokens = item_upper ns u no_overs t

  stopped_item : h ≡ None → ItemMade index s levels at o o₁ h
  stopped_item is ns records (limited u f t) tokens =
      rw (with_limits ns u f t tokens)
      (scripted_stop levels at o o₁ h (overs_operand ns u).field (limit_field ns t) (limit_field ns f) (Atom Op Always) item_head is)

  made_item : {e : ℕ} (o₂ : List ℕ) (r : Option ℕ) → h ≡ Some e → CutFields index s levels last first e o₁ o₂ r → ItemMade index s levels at o o₂ r
  made_item o₂ r is fields ns records (limited u f t) tokens =
      let slices = limited_slices p.at_to p.at_from u f t tokens in
      rw (with_limits ns u f t tokens)
      (scripted_then levels at o o₁ h (overs_operand ns u).field (limit_field ns t) (limit_field ns f) (Atom Op Always) item_head o₂ r is
      (fields.1 ns records u t f slices.front slices.outer slices.inner))

  pub item_stop : h ≡ None → Onward at h × ItemMade index s levels at o o₁ h
  item_stop is = (onward_stop at is, stopped_item is)

  pub item_done : {e : ℕ} (o₂ : List ℕ) (r : Option ℕ) → h ≡ Some e → CutFields index s levels last first e o₁ o₂ r →
      Onward at r × ItemMade index s levels at o o₂ r
  item_done o₂ r is fields = (opened_onward r (omega arith) p.opening.0 is fields.0, made_item o₂ r is fields)
