-- What the entries answer, from what was found of the formula.
--     measured_is      measuring
--     setting_is       setting, where there is room
--     no_room_is       setting, where there is no room: the answer, and the buffer as it was
--     none_lacks       the font lacks no symbol of a formula that was found
--     written_is       the buffer after an acceptance, from what the walk drew at its front
--     measured_refused, refused_is     a formula that is refused
-- Assumes nothing.
use mathlib.Core.Path.{◌≡◌, sym, ap, subst, ◌∙◌}
use mathlib.Core.List.{List, [], ◌++◌, append-nil}
use mathlib.Core.Option.{none, some}
use Prim.Native.Nat.{ℕ, ◌*◌, ◌≤◌, ◌<◌}
use Rattle.std.specs.Prelude.{Result, Ok, Err}
use native.Mathlib.Omega.{arith}
use lib.ListN.{length, take, drop, length-take, drop_of_length-le}
use Rattle.font.specs.Font.{font_with}
use Rattle.formula.specs.Places.{tree_of}
use Rattle.boxes.specs.declared.styles.Style.{Style}
use Rattle.nodes.specs.Nodes.{Node, bytes_of, bytes_in_node}
use Rattle.nodes.specs.Drawn.{Drawn}
use Rattle.setting.specs.Setting.{Box, no_sides, set_list}
use Rattle.setting.specs.Missing.{missing_items}
use Rattle.answers.specs.Lent.{Lent}
use Rattle.answers.specs.Answers.{boxed, result_of, Answered, accepted, measured, setting, buffer_after}
use Rattle.answers.proofs.AnswersLaws as answers
use Rattle.walk_fields.specs.declared.fields.Missing.{Missing}
use Rattle.walk_fields.specs.declared.lines.Line.{Line}
use Rattle.walk_fields.specs.Lists.{ListDone}
use Rattle.layout_answers.specs.declared.Accepted.{Accepted}
use Rattle.layout_answers.specs.declared.Refusal.{Refusal}
use Rattle.layout_answers.specs.declared.Refusal.TheVariants.{NoRoom}
use Rattle.layout_answers.specs.Values.{answered_as}
use Rattle.layout_find.specs.Found.{Refuses, Reads, Boxes}
use Rattle.layout_find.specs.FoundLaws.{found_is}

-- the front of a buffer that is just long enough for the nodes
drawn_whole : (ns : List Node) (n : ℕ) (b ys : List ℕ) → n ≡ length ns → bytes_in_node * n ≤ length b →
    Drawn ns (take (bytes_in_node * n) b) ys → ys ≡ bytes_of ns
drawn_whole ns n b ys count room drawn =
    let size : length (take (bytes_in_node * n) b) ≡ bytes_in_node * n = length-take (bytes_in_node * n) b ∙ omega arith in
    let rest : drop (bytes_in_node * length ns) (take (bytes_in_node * n) b) ≡ [] =
    drop_of_length-le (take (bytes_in_node * n) b) {i = bytes_in_node * length ns} (omega arith)
    in
    drawn (omega arith) ∙ ap (λ (r : List ℕ). bytes_of ns ++ r) rest ∙ append-nil (bytes_of ns)

module _ (style : ℕ) (table client : List ℕ) (lent : Lent) (formula : List ℕ) where
  module _ (i j : List ℕ) (s : Style) (g : Reads style table client lent formula i j s) where
    module _ (a : Accepted) (h : Boxes s table client formula a.size a.count) where
      abbrev found : Box
      found = set_list (font_with table client) no_sides s (tree_of formula)

      is_found_lem : result_of style table client lent formula ≡ boxed found
      is_found_lem = found_is g h

      pub measured_is : answered_as (Ok a) ≡ measured style table client lent formula
      measured_is =
          let answer : answered_as (Ok a) ≡ accepted found =
          λ i. record { number = 0; place = 0; size = h.size_is i; count = h.count_is i }
          in
          answer ∙ sym (answers.measured_boxed no_sides style table client lent formula found is_found_lem)

      count_measured : a.count ≡ (measured style table client lent formula).count
      count_measured = ap (λ (a : Answered). a.count) measured_is

      pub setting_is : (room : ℕ) → bytes_in_node * a.count ≤ room → answered_as (Ok a) ≡ setting style table client lent formula room
      setting_is room l =
          measured_is
          ∙ sym (answers.set_boxed no_sides style table client lent formula found is_found_lem room (subst (λ (k : ℕ). bytes_in_node * k ≤ room) count_measured l))

      pub no_room_is : (b : List ℕ) → length b < bytes_in_node * a.count →
          (answered_as (Err NoRoom) ≡ setting style table client lent formula (length b)) × (b ≡ buffer_after style table client lent formula b)
      no_room_is b l =
          let lacks : length b < bytes_in_node * (measured style table client lent formula).count = rw count_measured at l in
          let e = answers.no_room_is no_sides style table client lent formula found is_found_lem b lacks in
          (sym e.0, sym e.1)

      pub none_lacks : (place : ℕ) → missing_items (font_with table client) s (tree_of formula) ≡ some place → ⊥
      none_lacks place lacks = impossible (sym h.none_missing ∙ lacks)
        where
          impossible : none ≡ some place → ⊥
          impossible is = let z : ◌≡◌ {A = ℕ} 0 1 = cc in omega arith

      pub written_is : (b ys : List ℕ) (r : Result Line Missing) → bytes_in_node * a.count ≤ length b →
          ListDone (font_with table client) no_sides s (tree_of formula) (length formula) (take (bytes_in_node * a.count) b) r ys →
          (ys ++ drop (bytes_in_node * a.count) b) ≡ buffer_after style table client lent formula b
      written_is b ys (Err e) l done = absurd (none_lacks e.place done.0)
      written_is b ys (Ok c) l done =
          let front : ys ≡ bytes_of found.nodes = drawn_whole found.nodes a.count b ys h.count_is l (done.1 h.fits) in
          ap (λ (r : List ℕ). r ++ drop (bytes_in_node * a.count) b) front
          ∙ ap (λ (k : ℕ). bytes_of found.nodes ++ drop (bytes_in_node * k) b) count_measured
          ∙ sym (answers.buffer_boxed no_sides style table client lent formula found is_found_lem b (subst (λ (k : ℕ). bytes_in_node * k ≤ length b) count_measured l))

  module _ (r : Refusal) (h : Refuses r (result_of style table client lent formula)) where
    pub measured_refused : answered_as (Err r) ≡ measured style table client lent formula
    measured_refused = h.answer_is ∙ sym (answers.measured_refused no_sides style table client lent formula _ _ h.result_is)

    pub refused_is : (b : List ℕ) →
        (answered_as (Err r) ≡ setting style table client lent formula (length b)) × (b ≡ buffer_after style table client lent formula b)
    refused_is b =
        let e = answers.refused_is no_sides style table client lent formula _ _ h.result_is b in
        (h.answer_is ∙ sym e.0, sym e.1)
