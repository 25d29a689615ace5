-- `beyond_choice` meets its contract: without an atom in the taken list nothing asks for the class beyond (`set_items_beyond`), and with
-- one it is looked for, from the style behind that list.
-- Assumes nothing.
use mathlib.Core.Path.{◌≡◌, sym, ap, ◌∙◌}
use mathlib.Core.Option.{none}
use Rattle.formula.specs.Tree.{Items}
use Rattle.formula.specs.Places.{tree_of}
use Rattle.boxes.specs.declared.styles.Style.{Style}
use Rattle.spacing.specs.Classes.{Neighbour}
use Rattle.spacing.specs.Values.{neighbour_as}
use Rattle.setting.specs.Setting.{next_class, set_items}
use Rattle.setting.proofs.Beyond.{set_items_beyond}
use Rattle.walk_looks.specs.Seen.{SetsAlike}
use Rattle.walk_looks.proofs.places.beyond_choice.Goals as goal

nothing_asks : {style : Style} (l : Items) {class : Neighbour} (b c : Neighbour) → class ≡ next_class style none l → class ≡ none →
    SetsAlike style l b c
nothing_asks l b c is end F line here = set_items_beyond F b c line l (ap (λ (s : Style). next_class s none l) here ∙ sym is ∙ end)

pub returns-in-None : goal.returns-in-None
returns-in-None c =
    nothing_asks (tree_of c.args.inside.now) _ _ c.look_over-sight.ensures.class_is (ap neighbour_as c.in-None.is)

pub returns-in-Some : goal.returns-in-Some
returns-in-Some c F line here =
    let a = c.args in
    ap (λ (n : Neighbour). set_items F n line (tree_of a.inside.now))
    (c.next_class.ensures ∙ ap (λ (s : Style). next_class s (neighbour_as a.beyond) (tree_of a.s.now)) c.look_over-sight.ensures.style_is)
