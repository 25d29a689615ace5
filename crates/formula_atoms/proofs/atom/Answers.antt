-- `atom` meets its contract: the two numbers stand in their lists or past them, and the two tests decide the rest.
-- Assumes nothing.
use Rattle.formula.specs.Values.{numbered_some, numbered_none}
use Rattle.std.proofs.Common.{◌≡◌, refl, sym, ap, rules, ◌∙◌, Bool, true, false, ◌||◌}
use Rattle.std.proofs.Math.Option.{Option, none, some}
use Rattle.formula.specs.declared.Class.{Class}
use Rattle.formula.specs.declared.Limits.{Limits}
use Rattle.formula.specs.declared.Base.TheVariants.{Atom}
use Rattle.formula.specs.declared.Kind.TheVariants.{Scripted}
use Rattle.formula.specs.declared.Opening.TheVariants.{NoItem, Fields}
use Rattle.formula.specs.Heads.{classes, limit_kinds, is_op, is_display_only, atom_of}
use Rattle.formula_atoms.proofs.atom.Goals as goal
use Rattle.formula_atoms.proofs.atom.Goals.{then-eq, else-eq}

true_false : true ≡ false → ⊥
true_false e = cc

atom_none : (class : Option Class) → atom_of class none ≡ NoItem
unfolding atom_of
atom_none none = refl
atom_none (some class) = refl

pub returns-in_default : goal.returns-in_default
unfolding atom_of
returns-in_default c = rw (numbered_none classes c.args.class _ c.in_default.ensures) refl

pub returns-in_default-try_from : goal.returns-in_default-try_from
returns-in_default-try_from c = rw (numbered_none limit_kinds c.args.limits _ c.in_default-try_from.ensures) (sym (atom_none _))

said : (class : Class) (limits : Limits) (t : Bool) → (is_op class || is_display_only limits) ≡ t →
    atom_of (some class) (some limits) ≡ elim t [ true ↦ Fields (Scripted (Atom class limits)) | false ↦ NoItem ]
unfolding atom_of
said class limits t e = ap (λ (t : Bool). elim t [ true ↦ Fields (Scripted (Atom class limits)) | false ↦ NoItem ]) e

pub returns-then-eq-2 : goal.returns-then-eq-2
returns-then-eq-2 c =
    let op : c.eq.result ≡ is_op c.in-Ok.class = search rules in
    rw (numbered_some classes c.args.class _ c.in-Ok.ensures, numbered_some limit_kinds c.args.limits _ c.in-Ok-try_from.ensures)
    (sym (said c.in-Ok.class c.in-Ok-try_from.limits true (elim c.if-eq.branch [
      | then-eq w ↦ rw (sym op ∙ w.if-eq.true) refl
      | else-eq w ↦
          let only : w.eq-else-eq.result ≡ is_display_only c.in-Ok-try_from.limits = search rules in
          rw (sym op ∙ w.if-eq.false) (sym only ∙ sym w.value-is ∙ c.if-eq-2.true)
    ])))

pub returns-else-eq-2 : goal.returns-else-eq-2
returns-else-eq-2 c =
    let op : c.eq.result ≡ is_op c.in-Ok.class = search rules in
    rw (numbered_some classes c.args.class _ c.in-Ok.ensures, numbered_some limit_kinds c.args.limits _ c.in-Ok-try_from.ensures)
    (sym (said c.in-Ok.class c.in-Ok-try_from.limits false (elim c.if-eq.branch [
      | then-eq w ↦ absurd (true_false (sym w.if-eq.true ∙ sym w.value-is ∙ c.if-eq-2.false))
      | else-eq w ↦
          let only : w.eq-else-eq.result ≡ is_display_only c.in-Ok-try_from.limits = search rules in
          rw (sym op ∙ w.if-eq.false) (sym only ∙ sym w.value-is ∙ c.if-eq-2.false)
    ])))
