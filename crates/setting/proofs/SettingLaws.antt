-- Laws of the box of a list.
--     length_own       an item's own nodes are as many in the whole
--     signs_found      on which side an item has a sign does not depend on its fields
--     first_sides      the list in an item's first field sees a fence's sides where the item must hold a list, and otherwise none
--     taken_all        what holds of each of a choice's four lists holds of the taken one
--     style_behind_choice_lem, class_at_choice, set_item_choice, missing_item_choice, item_fits_choice
--                      a choice is asked for what its taken list is
--     set_item_style, set_items_style     the style of a line behind an item, and behind items, goes by them and the style before
--     closed_nodes     the space at a list's end is no node
-- Assumes nothing.
use Rattle.std.specs.Prelude.{◌≡◌, Bool, true, false, List, [], ◌∷◌, suc, length}
use Rattle.std.proofs.Math.Path.{refl, sym}
use Rattle.std.proofs.Common.{ap, ap₂, ◌∙◌}
use Rattle.std.proofs.Math.Option.{none, some}
use Rattle.font.specs.Font.{Font}
use Rattle.formula.specs.declared.Base.TheVariants.{Atom, Over, Under, Root, Fence}
use Rattle.formula.specs.declared.Kind.{Kind}
use Rattle.formula.specs.declared.Kind.TheVariants.{Scripted, Fraction}
use Rattle.formula.specs.Heads.{is_op}
use Rattle.formula.specs.Tree.{Items, Item, nil, cons, noad, kern, restyle, choice, holds_list}
use Rattle.boxes.specs.declared.styles.Level.{Level}
use Rattle.boxes.specs.declared.styles.Level.TheVariants.{Display, Text, Script, Scriptscript}
use Rattle.boxes.specs.declared.styles.Style.{Style}
use Rattle.boxes.specs.Styles.{is_display}
use Rattle.boxes.specs.Boxes.{Shape, OwnNode}
use Rattle.delimiters.specs.DelimiterLaws.{which_found, found_anyway}
use Rattle.spacing.specs.Classes.{Neighbour}
use Rattle.arrange.specs.declared.Manner.TheVariants.{Plain}
use Rattle.arrange.specs.Arrange.{op_manner, first_manner}
use Rattle.setting.specs.Setting.{signs_in, has_signs, own_nodes, Sides, no_sides, fence_sides, sides_of, taken, style_after, style_behind, next_class, class_at, Line, placed, closed, set_items, set_item, taken_start}
use Rattle.setting.specs.Missing.{later, missing_items, missing_item}
use Rattle.setting.specs.Fitting.{items_fit, item_fits}

pub length_own : (os : List OwnNode) → length (own_nodes os) ≡ length os
unfolding own_nodes
length_own [] = refl
length_own (o ∷ os) = ap suc (length_own os)

pub signs_found : (F : Font) (s : Style) (kind : Kind) (x : Shape) → which_found (signs_in F s kind x) ≡ has_signs F s kind
unfolding signs_in has_signs
signs_found F s (Scripted (Atom class limits)) x = refl
signs_found F s (Scripted Over) x = refl
signs_found F s (Scripted Under) x = refl
signs_found F s (Scripted (Root d)) x = ap (λ (t : Bool). record { before = t; behind = false }) (found_anyway F _ d _)
signs_found F s (Scripted (Fence left right)) x =
    ap₂ (λ (t u : Bool). record { before = t; behind = u }) (found_anyway F _ left _) (found_anyway F _ right _)
signs_found F s (Fraction bar) x = refl

-- ---- only a fence gives its list sides

abbrev pub held_sides : Bool → Sides
held_sides true = fence_sides
held_sides false = no_sides

pub first_sides : (kind : Kind) (s : Style) → sides_of (first_manner kind s) ≡ held_sides (holds_list kind)
first_sides (Scripted (Atom class limits)) s = go (is_op class) (is_display s.level)
  where
    go : (op display : Bool) → sides_of (elim op [ true ↦ op_manner display | false ↦ Plain ]) ≡ no_sides
    go true true = refl
    go true false = refl
    go false display = refl
first_sides (Scripted Over) s = refl
first_sides (Scripted Under) s = refl
first_sides (Scripted (Root sign)) s = refl
first_sides (Scripted (Fence left right)) s = refl
first_sides (Fraction bar) s = refl

-- ---- of a choice's four lists, the one taken

module _ {A B : Type 0} (f : A → B) (s : Style) where
  pub taken_all : {d t sc ss : A} {d' t' sc' ss' : B} → f d ≡ d' → f t ≡ t' → f sc ≡ sc' → f ss ≡ ss' →
      f (taken s d t sc ss) ≡ taken s d' t' sc' ss'
  taken_all {d} {t} {sc} {ss} {d'} {t'} {sc'} {ss'} p q r u = go s.level
    where
      go : (level : Level) →
          f (elim level [ Display ↦ d | Text ↦ t | Script ↦ sc | Scriptscript ↦ ss ])
          ≡ elim level [ Display ↦ d' | Text ↦ t' | Script ↦ sc' | Scriptscript ↦ ss' ]
      go Display = p
      go Text = q
      go Script = r
      go Scriptscript = u

-- ---- a choice is its taken list

module _ (s : Style) (d t sc ss : Items) where
  pub style_behind_choice_lem : style_behind s (choice d t sc ss) ≡ style_after s (taken s d t sc ss)
  unfolding style_behind
  style_behind_choice_lem = sym (taken_all (style_after s) s refl refl refl refl)

  pub class_at_choice : (beyond : Neighbour) → class_at s beyond (choice d t sc ss) ≡ next_class s beyond (taken s d t sc ss)
  unfolding class_at
  class_at_choice beyond = sym (taken_all (next_class s beyond) s refl refl refl refl)

pub set_item_choice : (F : Font) (right : Neighbour) (line : Line) (d t sc ss : Items) →
    set_item F right line (choice d t sc ss) ≡ set_items F right line (taken line.style d t sc ss)
unfolding set_item
set_item_choice F right line d t sc ss = sym (taken_all (set_items F right line) line.style refl refl refl refl)

pub missing_item_choice : (F : Font) (s : Style) (d t sc ss : Items) →
    missing_item F s (choice d t sc ss) ≡ later (taken_start s d t sc ss) (missing_items F s (taken s d t sc ss))
unfolding missing_item
missing_item_choice F s d t sc ss = ap (later _) (sym (taken_all (missing_items F s) s refl refl refl refl))

pub item_fits_choice : (F : Font) (s : Style) (d t sc ss : Items) →
    item_fits F s (choice d t sc ss) ≡ items_fit F s (taken s d t sc ss)
unfolding item_fits
item_fits_choice F s d t sc ss = sym (taken_all (items_fit F s) s refl refl refl refl)

-- ---- the style of a line

module _ (F : Font) where
  mutual
    unfolding set_items set_item placed style_after style_behind

    pub set_items_style : (beyond : Neighbour) (line : Line) (r : Items) →
        (set_items F beyond line r).style ≡ style_after line.style r
    set_items_style beyond line nil = refl
    set_items_style beyond line (cons i r) =
        let right = next_class (style_behind line.style i) beyond r in
        set_items_style beyond (set_item F right line i) r
        ∙ ap (λ (s : Style). style_after s r) (set_item_style right line i)

    pub set_item_style : (right : Neighbour) (line : Line) (i : Item) →
        (set_item F right line i).style ≡ style_behind line.style i
    set_item_style right line (noad kind x y z) = refl
    set_item_style right line (kern n) = refl
    set_item_style right line (restyle number) = refl
    set_item_style right line (choice d t sc ss) =
        taken_all (λ (m : Line). m.style) line.style (set_items_style right line d) (set_items_style right line t)
        (set_items_style right line sc) (set_items_style right line ss)

-- ---- a list's end

pub closed_nodes : (F : Font) (s : Style) (right : Neighbour) (line : Line) → (closed F s right line).nodes ≡ line.box.nodes
closed_nodes F s none line = refl
closed_nodes F s (some class) line = refl
