-- A choice and its taken list.
--     span_taken      the list's items stand behind its opening, and are those that the definition takes
--     choice_seen     what is seen of a choice is what is seen of that list
--     place_taken     where the list stands, from the lists before it
-- Assumes nothing.
use Rattle.std.specs.Prelude.{◌≡◌, refl, List, [], ◌∷◌, ℕ, suc, ◌+◌, ◌-◌, ◌≤◌, ◌<◌, length, take, drop}
use Rattle.std.proofs.Common.{sym, subst, ap, ◌∙◌, arith, length-drop}
use Rattle.std.proofs.Math.Option.{none}
use denote.Enum.Declared.{tag_of}
use types.Run.{OneOf, miss}
use Rattle.formula.specs.declared.FieldHead.{FieldHead}
use Rattle.formula.specs.declared.FieldHead.TheVariants.{NoField, Empty, Symbol, Sublist, CutSublist}
use Rattle.formula.specs.contracts.FieldHead.{the_type}
use Rattle.formula.specs.declared.Opening.{Opening}
use Rattle.formula.specs.declared.Opening.TheVariants.{Choice}
use Rattle.formula.specs.Heads.{opening_of, field_head}
use Rattle.formula.specs.Places.{tree_of, head_bytes, contents, list_of, GoodList, choice_lists, head_at, field_end, list_place, list_in}
use Rattle.formula.specs.Slices.{tail_part, field_part_lem}
use Rattle.formula.specs.HeadLaws.{head_fits, list_opening_lem, contents_shorter}
use Rattle.formula.specs.PlacesLaws.{Chosen, lists_stand}
use Rattle.boxes.specs.declared.styles.Level.{Level}
use Rattle.boxes.specs.declared.styles.Level.TheVariants.{Display, Text, Script, Scriptscript}
use Rattle.boxes.specs.declared.styles.Style.{Style}
use Rattle.boxes.specs.Styles.{plain}
use Rattle.setting.specs.Setting.{style_after, next_class, taken_place}
use Rattle.setting.proofs.SettingLaws.{taken_all, style_behind_choice_lem, class_at_choice}
use Rattle.walk_looks.specs.declared.current.Span.{Span}
use Rattle.walk_looks.specs.declared.places.Sight.{Sight}
use Rattle.walk_looks.specs.Seen.{part, lists_before, TakenSpan, OpenedSeen, ItemSeen, ItemsSeen}

-- ---- where its items stand

pub few_before : (style : Style) → lists_before style < choice_lists
few_before style = go style.level
  where
    go : (level : Level) → lists_before (plain level) < choice_lists
    go Display = omega arith
    go Text = omega arith
    go Script = omega arith
    go Scriptscript = omega arith

-- the lists stand one behind another
place_before_end : (s : List ℕ) → Chosen s → (style : Style) → list_place s (suc (lists_before style)) ≤ list_place s choice_lists
place_before_end s chosen style = go style.level
  where
    go : (level : Level) → list_place s (suc (lists_before (plain level))) ≤ list_place s choice_lists
    go Display = omega (arith, chosen.in_order 1 (omega arith), chosen.in_order 2 (omega arith), chosen.in_order 3 (omega arith))
    go Text = omega (arith, chosen.in_order 2 (omega arith), chosen.in_order 3 (omega arith))
    go Script = omega (arith, chosen.in_order 3 (omega arith))
    go Scriptscript = omega arith

-- no list, as the code's test tells it
abbrev NoList : FieldHead → Type 0
NoList h = OneOf (0 ∷ 1 ∷ 2 ∷ 4 ∷ []) (tag_of the_type h)

no_list : (s : List ℕ) (h : FieldHead) → NoList h → GoodList s h → ⊥
no_list s NoField other g = g
no_list s Empty other g = g
no_list s (Symbol family code) other g = g
no_list s (Sublist opening n) other g = miss (0 ∷ 1 ∷ 2 ∷ 4 ∷ []) 3 tt other
no_list s CutSublist other g = g

module _ (style : Style) (s : List ℕ) (chosen : Chosen s) {at : ℕ} (place : at ≡ list_place s (lists_before style)) {h : FieldHead}
    (read : h ≡ field_head (take (length s - at) (drop at s))) where
  head_is : head_at s at ≡ h
  head_is = sym (read ∙ ap field_head (tail_part s at))

  list_there_lem : GoodList (drop at s) h
  list_there_lem =
      subst (GoodList (drop at s)) head_is
      (subst (λ (n : ℕ). GoodList (drop n s) (head_at s n)) (sym place) (chosen.lists (lists_before style) (few_before style)))

  pub taken_is_list : NoList h → ⊥
  taken_is_list other = no_list (drop at s) h other list_there_lem

  module _ {opening n : ℕ} (is : h ≡ Sublist opening n) where
    pub span_in : at + (opening + n) ≤ length s
    span_in =
        let inside = chosen.places_in (lists_before style) in
        omega (arith, head_fits (drop at s) (Sublist opening n) (head_is ∙ is), length-drop at s)

    pub span_taken : TakenSpan style s (record { first = at + opening; end = at + opening + n })
    span_taken =
        let c : Span = record { first = at + opening; end = at + opening + n } in
        let here = head_is ∙ is in
        let inner : part c s ≡ contents opening n (drop at s) = field_part_lem s at opening n in
        let opens = list_opening_lem (drop at s) opening n here in
        let shorter = contents_shorter (drop at s) opening n here in
        let inside = span_in in
        let ends : at + opening + n ≡ list_place s (suc (lists_before style)) =
        omega (arith, ap head_bytes here) ∙ ap (field_end s) place in
        record {
          first_is = rw (inner, shorter.0) (omega arith);
          ordered = omega arith;
          inside = omega (arith, place_before_end s chosen style);
          shorter = rw inner (omega (arith, length-drop at s, shorter.0));
          readable = rw inner (subst (GoodList (drop at s)) is list_there_lem);
          tree =
              ap tree_of inner
              ∙ sym (ap (list_of (drop at s)) here)
              ∙ ap (λ (k : ℕ). list_of (drop k s) (head_at s k)) place
              ∙ taken_all (list_in s) style refl refl refl refl;
        }

-- ---- what is seen of it

pub choice_seen : {style : Style} {s : List ℕ} {c : Span} {inside : Sight} {n : ℕ} → opening_of s ≡ Choice → TakenSpan style s c →
    ItemsSeen style (part c s) inside → n ≡ list_place s choice_lists →
    ItemSeen style s (record { bytes = n; class = inside.class; style = inside.style })
choice_seen {style} {s} {c} {inside} {n} opens span seen place =
    subst (λ (o : Opening). OpenedSeen style s o (record { bytes = n; class = inside.class; style = inside.style })) (sym opens)
    (record {
      bytes_is = place;
      class_is = seen.class_is ∙ ap (next_class style none) span.tree ∙ sym (class_at_choice style _ _ _ _ none);
      style_is = seen.style_is ∙ ap (style_after style) span.tree ∙ sym (style_behind_choice_lem style _ _ _ _);
    })

-- the place of the taken list, from the lists before it
pub place_taken : (s : List ℕ) → Chosen s → (style : Style) →
    list_place s (lists_before style) ≡ taken_place style (list_in s 0) (list_in s 1) (list_in s 2)
place_taken s chosen style =
    let stand = lists_stand s chosen in
    taken_all (list_place s) style refl (sym stand.at_second) (sym stand.at_third) (sym stand.at_fourth)
