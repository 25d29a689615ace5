-- The items of a list, one behind another: what has been set so far and the items that are left make the list.
--     added_none, added_kern, added_style     nothing, a kern, and a style, behind a line; `kern_done` and `style_done` are what they
--                                come to
--     added_next                 what was set, and then something behind it
--     along_start, along_done    nothing of a list is set, and all of it (`Along`)
--     along_more, along_lacks, along_stretch, along_halt    what is left is set in part, lacks a symbol, is set up to a choice, or starts
--                                with one; `along_next`, `along_stop` its first item is set, or lacks a symbol
--     rest_given                 what is given to the setter of what is left
-- Assumes nothing.
use Rattle.std.specs.Prelude.{Result, Ok, Err, None}
use mathlib.Core.Path.{◌≡◌, refl, sym, subst, ap, ap₂, ◌∙◌}
use mathlib.Core.Bool.{Bool, true, false, not, ◌&&◌, ◌||◌, or-false, and-true, and_assoc, and-eq-true_iff}
use mathlib.Core.List.{List, ◌++◌, append-nil}
use mathlib.Core.Option.{Option, none, some}
use Prim.Native.Nat.{ℕ, ◌+◌, ◌-◌, ◌≤◌, ◌<◌}
use native.Mathlib.Omega.{arith}
use lib.IntN.{ℤ}
use lib.ListN.{length, take, drop, length-append, length-drop, take-append-drop}
use lib.Seq.{drop-drop}
use borrow.Rule.Slice.PartMut.{put_mid}
use Rattle.scaled.specs.declared.Sp.{Sp}
use Rattle.scaled.specs.Signed.{Within}
use Rattle.scaled.specs.Linear.{#, ◌⊕◌}
use Rattle.scaled.proofs.Linear.{within_by}
use Rattle.font.specs.Font.{Font}
use Rattle.formula.specs.declared.Opening.{Opening}
use Rattle.formula.specs.declared.Opening.TheVariants.{Kern, Restyle}
use Rattle.formula.specs.Tree.{Items, Item, nil, kern, restyle, kern_bytes, restyle_bytes}
use Rattle.formula.specs.Heads.{opening_of, greatest_kern}
use Rattle.formula.specs.Places.{Readable, tree_of, item_size, item_of}
use Rattle.formula.specs.Slices.{tail_part}
use Rattle.formula.specs.HeadLaws.{kern_small}
use Rattle.formula.specs.PlacesLaws.{Stepped, step, tree_none, item_bytes_lem}
use Rattle.formula.specs.Format.{formula_limit}
use Rattle.boxes.specs.declared.styles.Style.{Style}
use Rattle.spacing.specs.Classes.{Neighbour}
use Rattle.boxes.specs.Boxes.{Size}
use Rattle.spacing.specs.Values.{neighbour_as}
use Rattle.boxes.specs.Values.{size_as}
use Rattle.nodes.specs.Nodes.{Node}
use Rattle.nodes.specs.Buffer.{room_for}
use Rattle.nodes.specs.Drawn.{Drawn, drawn_none}
use Rattle.nodes.specs.Lent.{rest_lent, rest_back, drawn_behind}
use Rattle.nodes.specs.Kept.{kept_all, kept_more, kept_next}
use Rattle.nodes.specs.Hull.{hull, joined}
use Rattle.nodes.specs.HullLaws.{join_none, join_assoc, hull_append, within_more}
use Rattle.nodes.specs.Values.{hull_of, is_large}
use Rattle.setting.specs.Setting.{Line, restyled, style_after, style_behind, next_class, set_item, set_items}
use Rattle.setting.proofs.SettingLaws.{set_item_style, set_items_style}
use Rattle.setting.specs.Missing.{◌or_else◌, later, missing_item, missing_items}
use Rattle.setting.specs.Fitting.{item_fits, items_fit}
use Rattle.setting.specs.FieldInPlace.{after_nodes, sized}
use Rattle.setting.proofs.FieldInPlace.{set_items_after}
use Rattle.walk_fields.specs.declared.fields.Missing.{Missing}
use Rattle.walk_fields.specs.declared.lines.Line as lines
use Rattle.walk_fields.specs.Values.{bare_line}
use Rattle.walk_fields.specs.Bounds.{stride}
use Rattle.walk_fields.specs.Lines.{KernedLine, StyledLine}
use Rattle.walk_fields.specs.Lists.{Added, ItemsGiven, ItemsDone}
use Rattle.walk_fields.specs.ListLaws.{line_more}
use Rattle.walk.specs.declared.lists.Stretch.{Stretch}
use Rattle.walk.specs.Walked.{Along, class_behind, OpenedDone, ItemDone, StepDone, StretchDone}

-- ---- what goes behind a line

pub added_none : (l : lines.Line) (b : List ℕ) → Added true (bare_line l) 0 l b l b
unfolding hull
added_none l b =
    record {
      large_is = sym (or-false (is_large l.run));
      more = omega arith;
      few = omega arith;
      grows = λ k w. let e : k ≡ k + 0 = omega arith in rw (← e) w;
      style_is = refl;
      left_is = λ h. refl;
      size_is = λ h. refl;
      count_is = λ h. omega arith;
      hull_is = λ h. sym (join_none (hull_of l.run));
      drawn = λ h. drawn_none b;
      kept = kept_all 0 b;
    }

pub added_kern : (F : Font) (right : Neighbour) (n : ℤ) (l r : lines.Line) (b : List ℕ) → Within greatest_kern n →
    KernedLine l n r → Added (item_fits F l.style (kern n)) (set_item F right (bare_line l) (kern n)) kern_bytes l b r b
unfolding item_fits set_item hull
added_kern F right n l r b small k =
    let run = k.run_is in
    record {
      large_is = rw run (sym (or-false (is_large l.run)));
      more = rw run (omega arith);
      few = rw run (omega arith);
      grows = λ m w.
          let width : r.size.width.0 ≡ _ = ap (λ (z : Size). z.width) k.size_is in
          let far = w.width in
          record {
            width = rw width (within_by (# l.size.width.0 ⊕ # n) (stride (m + kern_bytes)) (omega arith));
            height = rw (ap (λ (z : Size). z.height) k.size_is) w.height;
            depth = rw (ap (λ (z : Size). z.depth) k.size_is) w.depth;
            count = rw run (omega (arith, w.count));
            hull = rw run (within_more (stride m) (stride (m + kern_bytes)) (hull_of l.run) (omega arith) w.hull);
          };
      style_is = k.style_is;
      left_is = λ h. ap neighbour_as k.left_is;
      size_is = λ h. k.size_is;
      count_is = λ h. rw run (omega arith);
      hull_is = λ h. rw run (sym (join_none (hull_of l.run)));
      drawn = λ h. drawn_none b;
      kept = kept_all kern_bytes b;
    }

pub added_style : (F : Font) (right : Neighbour) (n : ℕ) (l r : lines.Line) (b : List ℕ) → StyledLine l (restyled l.style n) r →
    Added (item_fits F l.style (restyle n)) (set_item F right (bare_line l) (restyle n)) restyle_bytes l b r b
unfolding item_fits set_item hull
added_style F right n l r b k =
    let run = k.run_is in
    record {
      large_is = rw run (sym (or-false (is_large l.run)));
      more = rw run (omega arith);
      few = rw run (omega arith);
      grows = λ m w.
          let far = w.width in
          record {
            width = rw k.size_is (omega arith);
            height = rw k.size_is w.height;
            depth = rw k.size_is w.depth;
            count = rw run (omega (arith, w.count));
            hull = rw run (within_more (stride m) (stride (m + restyle_bytes)) (hull_of l.run) (omega arith) w.hull);
          };
      style_is = k.style_is;
      left_is = λ h. ap neighbour_as k.left_is;
      size_is = λ h. ap size_as k.size_is;
      count_is = λ h. rw run (omega arith);
      hull_is = λ h. rw run (sym (join_none (hull_of l.run)));
      drawn = λ h. drawn_none b;
      kept = kept_all restyle_bytes b;
    }

-- an item by its opening
pub item_as : (F : Font) (beyond : Neighbour) (bytes : List ℕ) (l : lines.Line) (b b' : List ℕ) {o : Opening} → opening_of bytes ≡ o →
    (r : Result Stretch Missing) → OpenedDone F beyond bytes o l b r b' → ItemDone F beyond bytes l b r b'
item_as F beyond bytes l b b' opens r d = subst (λ (o : Opening). OpenedDone F beyond bytes o l b r b') (sym opens) d

module _ (F : Font) (beyond : Neighbour) (bytes : List ℕ) (l r : lines.Line) (b : List ℕ) where
  pub kern_done : {n : Sp} → opening_of bytes ≡ Kern n → KernedLine l n.0 r → ItemDone F beyond bytes l b (Ok (record { bytes = kern_bytes; line = r })) b
  unfolding missing_item
  kern_done {n} opens k =
      item_as F beyond bytes l b b opens (Ok (record { bytes = kern_bytes; line = r }))
      (refl, refl, added_kern F (class_behind l.style beyond bytes (Kern n)) n.0 l r b (kern_small bytes n opens) k)

  pub style_done : {n : ℕ} → opening_of bytes ≡ Restyle n → StyledLine l (restyled l.style n) r →
      ItemDone F beyond bytes l b (Ok (record { bytes = restyle_bytes; line = r })) b
  unfolding missing_item
  style_done {n} opens k =
      item_as F beyond bytes l b b opens (Ok (record { bytes = restyle_bytes; line = r }))
      (refl, refl, added_style F (class_behind l.style beyond bytes (Restyle n)) n l r b k)

-- the same by other names, of no fewer bytes
pub added_like : {f g : Bool} {M N : Line} {k n : ℕ} {l r : lines.Line} {b b' : List ℕ} → f ≡ g → M.style ≡ N.style →
    (f ≡ true → M ≡ N) → k ≤ n → Added f M k l b r b' → Added g N n l b r b'
added_like {f} {g} {M} {N} {k} {n} {l} {r} {b} {b'} e style same size a =
    let was : g ≡ true → f ≡ true = λ h. e ∙ h in
    record {
      large_is = a.large_is ∙ rw e;
      more = a.more;
      few = omega (arith, a.few);
      grows = λ i w. line_more (omega arith) (a.grows i w);
      style_is = a.style_is ∙ style;
      left_is = λ h. a.left_is (was h) ∙ ap (λ (m : Line). m.left) (same (was h));
      size_is = λ h. a.size_is (was h) ∙ ap (λ (m : Line). m.box.size) (same (was h));
      count_is = λ h. a.count_is (was h) ∙ ap (λ (m : Line). l.run.count + length m.box.nodes) (same (was h));
      hull_is = λ h. a.hull_is (was h) ∙ ap (λ (m : Line). joined (hull_of l.run) (hull m.box.nodes)) (same (was h));
      drawn = λ h. subst (λ (m : Line). Drawn m.box.nodes b b') (same (was h)) (a.drawn (was h));
      kept = kept_more size a.kept;
    }

-- what was large before, or is so now
or_more : (a b c : Bool) → (a || not b) || not c ≡ (a || not (b && c))
or_more true b c = refl
or_more false true c = refl
or_more false false c = refl

-- M and then N, which was set in the part of the buffer from j on, back as v
pub added_next : {f g : Bool} {M N : Line} {k n j : ℕ} {l₀ l r : lines.Line} {b₀ b v : List ℕ} → Added f M k l₀ b₀ l b →
    j ≡ room_for (l.run.count - l₀.run.count) (length b) →
    Added g N n l (take (length b - j) (drop j b)) r v →
    Added (f && g) (after_nodes M.box.nodes N) (k + n) l₀ b₀ r (put_mid j (length b - j) b v)
added_next {f} {g} {M} {N} {k} {n} {j} {l₀} {l} {r} {b₀} {b} {v} a at d =
    let both = length-append M.box.nodes N.box.nodes in
    let each = (and-eq-true_iff f g).0 in
    record {
      large_is = d.large_is ∙ ap (λ (t : Bool). t || not g) a.large_is ∙ or_more (is_large l₀.run) f g;
      more = omega (arith, a.more, d.more);
      few = omega (arith, a.few, d.few);
      grows = λ i w. let e : i + k + n ≡ i + (k + n) = omega arith in rw (← e) (d.grows (i + k) (a.grows i w));
      style_is = d.style_is;
      left_is = λ h. d.left_is (each h).1;
      size_is = λ h. d.size_is (each h).1;
      count_is = λ h. omega (arith, a.count_is (each h).0, d.count_is (each h).1);
      hull_is = λ h.
          d.hull_is (each h).1
          ∙ ap (λ (m : _). joined m (hull N.box.nodes)) (a.hull_is (each h).0)
          ∙ join_assoc (hull_of l₀.run) (hull M.box.nodes) (hull N.box.nodes)
          ∙ ap (joined (hull_of l₀.run)) (sym (hull_append M.box.nodes N.box.nodes));
      drawn = λ h.
          drawn_behind {j = j} {k = l.run.count - l₀.run.count} M.box.nodes N.box.nodes b₀ b v a.kept.same
          (omega (arith, a.count_is (each h).0)) at (a.drawn (each h).0) (d.drawn (each h).1);
      kept = kept_next {i = l.run.count - l₀.run.count} (omega (arith, a.few)) a.kept at d.kept;
    }

-- ---- what has been set of a list, and what is left

later_nowhere : (m : Option ℕ) → m ≡ later 0 m
unfolding later
later_nowhere none = refl
later_nowhere (some place) = ap some (omega arith)

later_again : (a b : ℕ) (m : Option ℕ) → later a (later b m) ≡ later (a + b) m
unfolding later
later_again a b none = refl
later_again a b (some place) = ap some (omega arith)

-- behind so many bytes
abbrev pub shifted : ℕ → Result Stretch Missing → Result Stretch Missing
shifted at (Ok c) = Ok (record { bytes = at + c.bytes; line = c.line })
shifted at (Err m) = Err (record { place = at + m.place })

module _ (F : Font) (beyond : Neighbour) where
  pub along_start : (s : List ℕ) (l₀ : lines.Line) (b₀ : List ℕ) → Readable s → Along F beyond s l₀ b₀ 0 l₀ b₀
  along_start s l₀ b₀ readable =
      record {
        fits = true;
        line = bare_line l₀;
        low = omega arith;
        rest = readable;
        lacks = later_nowhere (missing_items F l₀.style (tree_of s));
        all_fit = refl;
        style_is = refl;
        sets = λ h. refl;
        added = added_none l₀ b₀;
      }

  -- the first item of a list, which was set or lacks a symbol
  module _ (s : List ℕ) (l : lines.Line) (b v : List ℕ) (readable : Readable s) (more : 0 < length s) where
    abbrev first : Item
    first = item_of s (opening_of s)

    abbrev size : ℕ
    size = item_size s (opening_of s)

    stepped : Stepped s (opening_of s)
    stepped = step s (opening_of s) refl readable more

    -- the style behind it
    abbrev there : Style
    there = style_behind l.style first

    lacks_first : missing_items F l.style (tree_of s)
        ≡ (missing_item F l.style first or_else later size (missing_items F there (tree_of (drop size s))))
    unfolding missing_items
    lacks_first =
        ap (missing_items F l.style) stepped.tree
        ∙ ap (λ (n : ℕ). missing_item F l.style first or_else later n (missing_items F there (tree_of (drop size s))))
        (item_bytes_lem s (opening_of s) stepped.item)

    pub item_lacks : {m : Missing} → ItemDone F beyond s l b (Err m) v → ItemsDone F beyond (tree_of s) (length s) l b (Err m) v
    item_lacks (lacks, near, kept) =
        let within = stepped.fits in
        (lacks_first ∙ rw lacks, omega arith, kept_more within kept)

    pub item_along : {c : Stretch} → ItemDone F beyond s l b (Ok c) v → (0 < c.bytes) × Along F beyond s l b c.bytes c.line v
    unfolding items_fit set_items style_after
    item_along {c} (present, is, added) =
        let n = c.bytes in
        let r = c.line in
        let p = stepped in
        let positive = p.some in
        let within = p.fits in
        let rest : drop size s ≡ drop n s = ap (λ (k : ℕ). drop k s) (sym is) in
        let right = next_class there beyond (tree_of (drop size s)) in
        let N = set_item F right (bare_line l) first in
        let style : there ≡ r.style = sym (added.style_is ∙ set_item_style F right (bare_line l) first) in (
          omega arith,
          record {
            fits = item_fits F l.style first;
            line = N;
            low = omega arith;
            rest = rw (← rest) p.rest;
            lacks =
                lacks_first ∙ (rw present)
                ∙ ap₂ (λ (k : ℕ) (t : Style). later k (missing_items F t (tree_of (drop size s)))) (sym is) style
                ∙ ap (λ (t : List ℕ). later n (missing_items F r.style (tree_of t))) rest;
            all_fit =
                ap (items_fit F l.style) p.tree
                ∙ ap₂ (λ (u : Style) (t : List ℕ). item_fits F l.style first && items_fit F u (tree_of t)) style rest;
            style_is = ap (style_after l.style) p.tree ∙ ap₂ (λ (u : Style) (t : List ℕ). style_after u (tree_of t)) style rest;
            sets = λ h. ap (set_items F beyond (bare_line l)) p.tree ∙ ap (λ (t : List ℕ). set_items F beyond N (tree_of t)) rest;
            added = added;
          },
        )

  module _ {s : List ℕ} {l₀ : lines.Line} {b₀ : List ℕ} {at : ℕ} {l : lines.Line} {b : List ℕ} (a : Along F beyond s l₀ b₀ at l b) where
    pub along_done : length s ≤ at → ItemsDone F beyond (tree_of s) (length s) l₀ b₀ (Ok l) b
    unfolding missing_items items_fit set_items style_after later
    along_done over =
        let low = a.low in
        let end : tree_of (drop at s) ≡ nil = (tree_none (drop at s) (omega (arith, length-drop at s))).1 in
        let style : style_after l₀.style (tree_of s) ≡ l.style = a.style_is ∙ ap (style_after l.style) end in (
          a.lacks ∙ ap (λ (t : Items). later at (missing_items F l.style t)) end,
          added_like (sym (a.all_fit ∙ ap (λ (t : Items). a.fits && items_fit F l.style t) end ∙ and-true a.fits))
              (sym a.added.style_is ∙ sym style ∙ sym (set_items_style F beyond (bare_line l₀) (tree_of s)))
              (λ h. sym (a.sets h ∙ ap (set_items F beyond a.line) end)) (omega arith) a.added,
        )

    -- what is left was set in the part of the buffer from j on, back as v
    module _ {j : ℕ} (place : j ≡ room_for (l.run.count - l₀.run.count) (length b)) (v : List ℕ) where
      abbrev left : List ℕ
      left = take (length s - at) (drop at s)

      abbrev lent : List ℕ
      lent = take (length b - j) (drop j b)

      abbrev back : List ℕ
      back = put_mid j (length b - j) b v

      -- it lacks a symbol
      pub along_lacks : {m : Missing} → ItemsDone F beyond (tree_of left) (length left) l lent (Err m) v →
          ItemsDone F beyond (tree_of s) (length s) l₀ b₀ (Err (record { place = at + m.place })) back
      unfolding later
      along_lacks done =
          let d = rw (tail_part s at) at done in
          let low = a.low in
          let rests = length-drop at s in
          let near = d.1 in
          let few = a.added.few in
          (a.lacks ∙ ap (later at) d.0, omega arith, kept_more (omega arith) (kept_next (omega arith) a.added.kept place d.2))

      -- or its first n bytes are set
      pub along_more : {n : ℕ} {r : lines.Line} → Along F beyond left l lent n r v → Along F beyond s l₀ b₀ (at + n) r back
      along_more {n} {r} further =
          let d = rw (tail_part s at) at further in
          let rest : drop n (drop at s) ≡ drop (at + n) s = drop-drop n at s in
          let M = a.line in
          let ns = M.box.nodes in
          let low = a.low in
          let within = d.low in
          record {
            fits = a.fits && d.fits;
            line = after_nodes ns d.line;
            low = omega (arith, length-drop at s);
            rest = rw (← rest) d.rest;
            lacks =
                a.lacks ∙ ap (later at) d.lacks ∙ later_again at n _
                ∙ ap (λ (t : List ℕ). later (at + n) (missing_items F r.style (tree_of t))) rest;
            all_fit =
                a.all_fit ∙ ap (λ (t : Bool). a.fits && t) d.all_fit
                ∙ sym (and_assoc a.fits d.fits (items_fit F r.style (tree_of (drop n (drop at s)))))
                ∙ ap (λ (t : List ℕ). a.fits && d.fits && items_fit F r.style (tree_of t)) rest;
            style_is = a.style_is ∙ d.style_is ∙ ap (λ (t : List ℕ). style_after r.style (tree_of t)) rest;
            sets = λ h.
                let each = (and-eq-true_iff a.fits d.fits).0 h in
                let bare : M ≡ after_nodes ns (bare_line l) =
                ap (λ (t : Style). record { left = M.left; style = t; box = M.box }) (sym a.added.style_is)
                ∙ ap₂ (λ (m : Neighbour) (z : Size). record { left = m; style = l.style; box = sized z ns })
                (sym (a.added.left_is each.0)) (sym (a.added.size_is each.0))
                ∙ ap (λ (k : List Node). record { left = neighbour_as l.left; style = l.style; box = sized (size_as l.size) k }) (sym (append-nil ns)) in
                a.sets each.0
                ∙ ap (λ (m : Line). set_items F beyond m (tree_of (drop at s))) bare
                ∙ set_items_after F beyond ns (bare_line l) (tree_of (drop at s))
                ∙ ap (after_nodes ns) (d.sets each.1)
                ∙ sym (set_items_after F beyond ns d.line (tree_of (drop n (drop at s))))
                ∙ ap (λ (t : List ℕ). set_items F beyond (after_nodes ns d.line) (tree_of t)) rest;
            added = added_next a.added place d.added;
          }

      -- or up to a choice
      pub along_stretch : (r : Result Stretch Missing) → StretchDone F beyond left l lent r v → StretchDone F beyond s l₀ b₀ (shifted at r) back
      along_stretch (Ok c) (further, stops) =
          let n = c.bytes in
          let rest : drop n left ≡ drop (at + n) s = ap (drop n) (tail_part s at) ∙ drop-drop n at s in
          let long = length-drop at s in
          (along_more further, λ more. sym (ap opening_of rest) ∙ stops (rw (tail_part s at) (omega arith)))
      along_stretch (Err m) lacks = along_lacks lacks

      -- or it starts with a choice
      pub along_halt : StepDone F beyond left l lent (Ok None) v → StretchDone F beyond s l₀ b₀ (Ok (record { bytes = at; line = l })) back
      along_halt (opens, same) =
          let kept : back ≡ b = rest_back j b v ∙ ap (λ (r : List ℕ). take j b ++ r) (same ∙ rest_lent j b) ∙ take-append-drop j b in
          (subst (Along F beyond s l₀ b₀ at l) (sym kept) a, λ more. sym (ap opening_of (tail_part s at)) ∙ opens)

      module _ (more : at < length s) where
        left_some : Readable left × (0 < length left)
        left_some = rw (tail_part s at) (a.rest, omega (arith, length-drop at s))

        pub along_stop : {m : Missing} → ItemDone F beyond left l lent (Err m) v →
            ItemsDone F beyond (tree_of s) (length s) l₀ b₀ (Err (record { place = at + m.place })) back
        along_stop d = along_lacks (item_lacks left l lent v left_some.0 left_some.1 d)

        pub along_next : {c : Stretch} → ItemDone F beyond left l lent (Ok c) v → (0 < c.bytes) × Along F beyond s l₀ b₀ (at + c.bytes) c.line back
        along_next d = let one = item_along left l lent v left_some.0 left_some.1 d in (one.0, along_more one.1)

-- what the setter of the rest is given, and how long that is
pub rest_given : {F : Font} {beyond : Neighbour} {s : List ℕ} {l₀ : lines.Line} {b₀ : List ℕ}
    {at : ℕ} {l : lines.Line} {b : List ℕ} → ItemsGiven s l₀ → Along F beyond s l₀ b₀ at l b →
    let rest = take (length s - at) (drop at s) in
    ItemsGiven rest l × (length rest ≡ length s - at)
rest_given {s = s} {at = at} given a =
    let long = length-drop at s in
    let short = given.list.short in
    let low = a.low in
    rw (tail_part s at) (
      record {
        list = record { readable = a.rest; short = omega arith };
        small = line_more (omega arith) (a.added.grows (formula_limit - length s) given.small);
      },
      omega arith,
    )
