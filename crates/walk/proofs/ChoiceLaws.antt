-- What a choice comes to, by what its taken list comes to.
--     choice_given    what the list's setter is given
--     choice_lacks, choice_done     a symbol is missing in it, or all of it is set
-- Assumes nothing.
use Rattle.std.specs.Prelude.{Ok, Err}
use mathlib.Core.Path.{◌≡◌, refl, sym, ap, ap₂, ◌∙◌}
use mathlib.Core.List.{List}
use Prim.Native.Nat.{ℕ, ◌+◌, ◌-◌, ◌≤◌, ◌<◌}
use native.Mathlib.Omega.{arith}
use lib.ListN.{length, take, drop, length-take}
use Rattle.formula.specs.declared.Opening.TheVariants.{Choice}
use Rattle.formula.specs.Tree.{Items, Item, list_opening_bytes, items_bytes}
use Rattle.formula.specs.Heads.{opening_of}
use Rattle.formula.specs.Places.{tree_of, choice_lists, list_place, list_in, item_of}
use Rattle.formula.specs.Slices.{tail_part}
use Rattle.formula.specs.PlacesLaws.{Chosen, items_bytes_lem}
use Rattle.font.specs.Font.{Font}
use Rattle.boxes.specs.declared.styles.Style.{Style}
use Rattle.spacing.specs.Classes.{Neighbour}
use Rattle.nodes.specs.Kept.{kept_more}
use Rattle.setting.specs.Setting.{Line, style_after, style_behind, next_class, set_item, set_items}
use Rattle.setting.specs.Missing.{later, missing_item, missing_items}
use Rattle.setting.specs.Fitting.{item_fits, items_fit}
use Rattle.setting.proofs.SettingLaws.{style_behind_choice_lem, set_item_choice, missing_item_choice, item_fits_choice}
use Rattle.walk_looks.specs.declared.current.Span.{Span}
use Rattle.walk_looks.specs.Seen.{part, lists_before, TakenSpan, SetsAlike}
use Rattle.walk_looks.specs.TakenLaws.{place_taken}
use Rattle.walk_fields.specs.declared.fields.Missing.{Missing}
use Rattle.walk_fields.specs.declared.lines.Line as lines
use Rattle.walk_fields.specs.Values.{bare_line}
use Rattle.walk_fields.specs.Lists.{ItemsGiven, ItemsDone}
use Rattle.walk_fields.specs.ListLaws.{line_more}
use Rattle.walk.specs.Walked.{OpenedGiven, class_behind, ItemDone}
use Rattle.walk.proofs.AlongLaws.{item_as, added_like}

pub choice_given : {s : List ℕ} {l : lines.Line} {style : Style} {c : Span} →
    OpenedGiven s Choice l → TakenSpan style s c → ItemsGiven (part c s) l × (length (part c s) < length s)
choice_given given span =
    let list = given.items.list in
    let short = list.short in
    let shorter = span.shorter in (
      record {
        list = record { readable = span.readable; short = omega arith };
        small = line_more (omega arith) given.items.small;
      },
      omega arith,
    )

module _ (F : Font) (beyond : Neighbour) {s : List ℕ} (l : lines.Line) (b b' : List ℕ) (opens : opening_of s ≡ Choice) (chosen : Chosen s)
    {c : Span} (span : TakenSpan l.style s c) where
  abbrev style : Style
  style = l.style

  abbrev chosen_item : Item
  chosen_item = item_of s Choice

  abbrev items : Items
  items = tree_of (part c s)

  long : length (part c s) ≤ list_place s choice_lists
  long =
      let inside = span.inside in
      omega (arith, length-take (c.end - c.first) (drop c.first s))

  lacks_is : missing_item F style chosen_item ≡ later c.first (missing_items F style items)
  lacks_is =
      missing_item_choice F style (list_in s 0) (list_in s 1) (list_in s 2) (list_in s 3)
      ∙ ap₂ (λ (n : ℕ) (k : Items). later (n + list_opening_bytes (items_bytes k)) (missing_items F style k)) (sym (place_taken s chosen style)) (sym span.tree)
      ∙ ap (λ (n : ℕ). later n (missing_items F style items)) (ap (λ (n : ℕ). list_place s (lists_before style) + list_opening_bytes n) (items_bytes_lem (part c s) span.readable) ∙ sym span.first_is)

  pub choice_lacks : {m : Missing} → ItemsDone F beyond items (length (part c s)) l b (Err m) b' →
      ItemDone F beyond s l b (Err (record { place = c.first + m.place })) b' × (c.first + m.place ≤ length s)
  unfolding later
  choice_lacks {m} (lacks, low, kept) =
      let inside = span.inside in
      let ordered = span.ordered in
      let end_in = chosen.places_in choice_lists in
      let near : c.first + m.place ≤ list_place s choice_lists = omega (arith, length-take (c.end - c.first) (drop c.first s)) in
      (item_as F beyond s l b b' opens (Err (record { place = c.first + m.place })) (lacks_is ∙ ap (later c.first) lacks, near, kept_more long kept), omega arith)

  -- the class beyond it, and its line
  abbrev right : Neighbour
  right = class_behind style beyond s Choice

  style_is : style_behind style chosen_item ≡ style_after style items
  style_is = style_behind_choice_lem style (list_in s 0) (list_in s 1) (list_in s 2) (list_in s 3) ∙ ap (style_after style) (sym span.tree)

  -- the class beyond as the code knows it, which stands in the list at n
  module _ (m : Neighbour) {n : ℕ} (ends : n ≡ list_place s choice_lists)
      (alike : SetsAlike style items m (next_class (style_after style items) beyond (tree_of (take (length s - n) (drop n s))))) where
    line_is : set_items F m (bare_line l) items ≡ set_item F right (bare_line l) chosen_item
    line_is =
        let rest : take (length s - n) (drop n s) ≡ drop (list_place s choice_lists) s = tail_part s n ∙ ap (λ (k : ℕ). drop k s) ends in
        alike F (bare_line l) refl
        ∙ ap₂ (λ (t : Style) (r : List ℕ). set_items F (next_class t beyond (tree_of r)) (bare_line l) items) (sym style_is) rest
        ∙ ap (set_items F right (bare_line l)) span.tree
        ∙ sym (set_item_choice F right (bare_line l) (list_in s 0) (list_in s 1) (list_in s 2) (list_in s 3))

    pub choice_done : {r : lines.Line} → ItemsDone F m items (length (part c s)) l b (Ok r) b' →
        ItemDone F beyond s l b (Ok (record { bytes = n; line = r })) b'
    unfolding later
    choice_done {r} (present, added) =
        let fits : items_fit F style items ≡ item_fits F style chosen_item =
        ap (items_fit F style) span.tree ∙ sym (item_fits_choice F style (list_in s 0) (list_in s 1) (list_in s 2) (list_in s 3)) in
        item_as F beyond s l b b' opens (Ok (record { bytes = n; line = r })) (
          lacks_is ∙ ap (later c.first) present,
          ends,
          added_like fits (ap (λ (k : Line). k.style) line_is) (λ h. line_is) (omega (arith, long)) added,
        )
