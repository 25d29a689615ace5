-- Worked lists.
--     two_bins      in + + a the first + becomes Ord, and the second, whose left neighbour is Ord then, stays Bin; fields and font
--                   do not matter
--     in_a_row      each of three boxes stands behind those before it, not at the first one's place
-- Of style changes ST and choices C4, in the style T, where a choice takes its second list:
--     style_behind_choice    an ST in the taken list holds on behind the choice
--     sees_into_choice       a Bin before a choice sees the Rel in the list that is taken, not the Ord behind the choice
--     sees_out_of_choice     a Bin at the end of a taken list, and of one in it, sees the Rel behind the choices
--     space_of_its_style     between Ord and Rel there is none in the style S, though the list starts in T
--     fits-around-choice     a taken list is no list of answer 6: wider than the bound by itself, it fits with the kern behind the choice
--     missing-in-taken       a symbol that the font lacks is looked for only in the taken list; the place is that of its kind byte
-- Of roots:
--     sign-by-nucleus        the sign is searched from the current size up, and reaches over the nucleus; a symbol too low is passed over
-- Of fences:
--     signs-by-list          both delimiters are searched as the list asks for them, from the current size up
--     close_in_first_style   the space before the unseen Close goes by the style in which the list starts, not by the last one
-- Assumes nothing.
use Rattle.std.specs.Prelude.{◌≡◌, refl, true, false, ◌&&◌, List, [], ◌∷◌, ℕ, zero, suc, ◌*◌, ◌-◌, eqb, pos, negsuc}
use Rattle.std.proofs.Math.Option.{Option, none, some}
use Rattle.scaled.specs.Length.{pick, max_ℤ}
use Rattle.font.specs.Font.{Font, Metrics}
use Rattle.formula.specs.declared.Base.TheVariants.{Atom, Root, Fence}
use Rattle.formula.specs.declared.Class.{Class}
use Rattle.formula.specs.declared.Class.TheVariants.{Ord, Bin, Rel, Open, Close, Punct}
use Rattle.formula.specs.declared.Kind.{Kind}
use Rattle.formula.specs.declared.Kind.TheVariants.{Scripted}
use Rattle.formula.specs.declared.Limits.TheVariants.{DisplayOnly}
use Rattle.formula.specs.Heads.{delimiter}
use Rattle.formula.specs.Tree.{Items, Item, nil, cons, noad, kern, restyle, choice, empty, symbol, list_opening_bytes, items_bytes, item_bytes, field_bytes}
use Rattle.boxes.specs.declared.styles.Level.TheVariants.{Display, Text, Script}
use Rattle.boxes.specs.declared.styles.Style.{Style}
use Rattle.boxes.specs.Styles.{plain, style_of}
use Rattle.boxes.specs.Boxes.{Shape, box}
use Rattle.delimiters.specs.Delimiters.{Sign, chain_by, chain, in_sizes, of_pair, candidates, extent, first_enough, taller, tallest, taken, sign_for}
use Rattle.spacing.specs.Classes.{Neighbour, changed_class}
use Rattle.spacing.specs.Spacing.{space_before}
use Rattle.nodes.specs.Nodes.{glyph, moved}
use Rattle.nodes.specs.Bounds.{nodes_fit}
use Rattle.setting.specs.Setting.{Box, Line, found, enlarged, symbol_in, empty_field_box, signs_in, item_box, empty_box, start, beside, kerned, placed, style_after, style_behind, next_class, class_at, no_sides, fence_sides, set_items, set_item, set_field, set_list}
use Rattle.setting.specs.Missing.{later, absent_at, missing_items, missing_item, missing_field}
use Rattle.setting.specs.Fitting.{box_fits, items_fit, item_fits, list_fits}

abbrev atom : Class → Item
atom class = noad (Scripted (Atom class DisplayOnly)) empty empty empty

-- what the last atom is for what stands behind it, after each item of a list
neighbours : Font → Line → Items → List Neighbour
neighbours F line nil = []
neighbours F line (cons i r) =
    let next = set_item F (next_class (style_behind line.style i) none r) line i in
    next.left ∷ neighbours F next r

two_bins : (F : Font) (s : Style) →
    neighbours F (start none s) (cons (atom Bin) (cons (atom Bin) (cons (atom Ord) nil))) ≡ some Ord ∷ some Bin ∷ some Ord ∷ []
unfolding neighbours set_item placed next_class class_at changed_class
two_bins F s = refl

-- a box of one glyph, 500 wide
abbrev one : Box
one = record { size = record { width = pos 500; height = pos 430; depth = pos 0 }; nodes = glyph (pos 0) (pos 0) 0 1 97 ∷ [] }

in_a_row :
    (beside (beside (beside empty_box (pos 0) one) (pos 220) one) (pos 220) one).nodes
    ≡ glyph (pos 0) (pos 0) 0 1 97 ∷ glyph (pos 720) (pos 0) 0 1 97 ∷ glyph (pos 1_440) (pos 0) 0 1 97 ∷ []
unfolding moved
in_a_row = refl

-- ---- style changes and choices

abbrev in_text : Items → Item
in_text l = choice nil l nil nil

style_behind_choice : (F : Font) →
    (set_items F none (start none (plain Text)) (cons (in_text (cons (restyle 0) nil)) (cons (atom Ord) nil))).style ≡ plain Display
unfolding set_items set_item placed style_of
style_behind_choice F = refl

sees_into_choice : (F : Font) →
    neighbours F (start none (plain Text)) (cons (atom Ord) (cons (atom Bin) (cons (in_text (cons (atom Rel) nil)) (cons (atom Ord) nil))))
    ≡ some Ord ∷ some Ord ∷ some Rel ∷ some Ord ∷ []
unfolding neighbours set_items set_item placed style_after style_behind next_class class_at changed_class
sees_into_choice F = refl

sees_out_of_choice : (F : Font) →
    neighbours F (start none (plain Text)) (cons (atom Ord) (cons (in_text (cons (in_text (cons (atom Bin) nil)) nil)) (cons (atom Rel) nil)))
    ≡ some Ord ∷ some Ord ∷ some Rel ∷ []
unfolding neighbours set_items set_item placed style_after style_behind next_class class_at changed_class
sees_out_of_choice F = refl

abbrev atom_box : Font → Style → Class → Box
atom_box F s class = item_box F s (Scripted (Atom class DisplayOnly)) empty_field_box empty_field_box empty_field_box

space_of_its_style : (F : Font) →
    (set_items F none (start none (plain Text)) (cons (atom Ord) (cons (restyle 4) (cons (atom Rel) nil)))).box
    ≡ beside (beside empty_box (space_before F.parameter (plain Text) none Ord) (atom_box F (plain Text) Ord))
    (space_before F.parameter (plain Script) (some Ord) Rel) (atom_box F (plain Script) Rel)
unfolding set_items set_item set_field placed changed_class style_of
space_of_its_style F = refl

-- without symbols
abbrev bare_font : Font
bare_font = record { parameter = λ size number. 0; symbol = λ size family code. none }

abbrev lacking : Items
lacking = cons (noad (Scripted (Atom Ord DisplayOnly)) (symbol 1 97) empty empty) nil

missing-in-taken :
    missing_items bare_font (plain Text) (cons (choice lacking nil lacking lacking) nil)
    ∷ missing_items bare_font (plain Text) (cons (choice nil lacking nil nil) nil)
    ∷ []
    ≡ none ∷ some 12 ∷ []
unfolding missing_items missing_item missing_field later absent_at symbol_in enlarged found list_opening_bytes items_bytes item_bytes field_bytes
missing-in-taken = refl

-- n kerns, each as wide as can be
wide : ℕ → Items
wide zero = nil
wide (suc n) = cons (kern (pos 8_388_607)) (wide n)

fits-around-choice :
    list_fits bare_font no_sides (plain Text) (wide 129)
    ∷ list_fits bare_font no_sides (plain Text) (cons (in_text (wide 129)) (cons (kern (negsuc 8_388_606)) nil))
    ∷ []
    ≡ false ∷ true ∷ []
unfolding wide list_fits box_fits items_fit item_fits set_list set_items set_item nodes_fit
fits-around-choice = refl

-- ---- roots

-- one symbol, family 3 and code 80, in each size, lower in the smaller ones
sign_metrics : ℕ → Metrics
sign_metrics size = record { width = 10; height = 0; depth = 300 - 100 * size; italic = 0; successor = none }

abbrev signs : Font
signs =
    record {
      parameter = λ size number. 0;
      symbol = λ size family code. elim (eqb family 3 && eqb code 80) [ true ↦ some (sign_metrics size) | false ↦ none ];
    }

abbrev a_root : Kind
a_root = Scripted (Root (delimiter 3 80 0 0))

-- a nucleus so high
abbrev high : ℕ → Shape
high n = box record { width = pos 0; height = pos n; depth = pos 0 }

abbrev sign_of : ℕ → Option Sign
sign_of size = some record { size = size; family = 3; code = 80; metrics = sign_metrics size }

sign-by-nucleus :
    (signs_in signs (plain Text) a_root (high 0)).before
    ∷ (signs_in signs (plain Script) a_root (high 0)).before
    ∷ (signs_in signs (plain Script) a_root (high 200)).before
    ∷ (signs_in signs (plain Script) a_root (high 201)).before
    ∷ []
    ≡ sign_of 0 ∷ sign_of 1 ∷ sign_of 1 ∷ sign_of 0 ∷ []
unfolding sign_metrics chain_by chain in_sizes of_pair candidates extent first_enough taller tallest taken sign_for signs_in pick
sign-by-nucleus = refl

-- ---- fences

-- with a delimiter on its left alone
abbrev a_fence : Kind
a_fence = Scripted (Fence (delimiter 3 80 0 0) (delimiter 0 0 0 0))

-- δ = 500 asks for 901, more than any symbol has; δ = 499 for nothing
signs-by-list :
    signs_in signs (plain Script) a_fence (high 499)
    ∷ signs_in signs (plain Script) a_fence (high 500)
    ∷ []
    ≡ record { before = sign_of 1; behind = none } ∷ record { before = sign_of 0; behind = none } ∷ []
unfolding sign_metrics chain_by chain in_sizes of_pair candidates extent first_enough taller tallest taken sign_for signs_in pick max_ℤ
signs-by-list = refl

-- a Punct in S at the end of a list that starts in T
close_in_first_style : (F : Font) →
    set_list F fence_sides (plain Text) (cons (restyle 4) (cons (atom Punct) nil))
    ≡ kerned (set_items F (some Close) (start (some Open) (plain Text)) (cons (restyle 4) (cons (atom Punct) nil))).box
    (space_before F.parameter (plain Text) (some Punct) Close)
unfolding set_items set_item set_field set_list placed changed_class style_of
close_in_first_style F = refl
