-- What a field comes to, over plain values.
--     field_empty                      no symbol and no list
--     symbol_whole, symbol_missing     a symbol: its glyph at the reference point, or its place
--     list_whole, list_missing         a list, from what the list comes to
-- Assumes nothing.
use Rattle.std.specs.Prelude.{◌≡◌, refl, Ok, Err, ℕ, ◌+◌, ◌-◌, ◌≤◌, ◌<◌, pos}
use Rattle.std.proofs.Math.Path.{sym, ap, subst}
use Rattle.std.proofs.Common.{◌∙◌}
use Rattle.std.proofs.Math.Bool.{true, and-eq-true_iff}
use mathlib.Core.List.{List, [], ◌∷◌}
use Rattle.std.proofs.Math.Option.{none, some}
use native.Mathlib.Omega.{arith}
use Rattle.font.specs.Font.{Font}
use Rattle.font.specs.Values.{metrics_as}
use Rattle.formula.specs.Tree.{Items, empty, symbol, list, list_opening_bytes, items_bytes}
use Rattle.boxes.specs.declared.styles.Style.{Style}
use Rattle.boxes.specs.declared.Shape.TheVariants.{Char}
use Rattle.boxes.specs.Styles.{font_size}
use Rattle.boxes.specs.Boxes.{char, box}
use Rattle.boxes.specs.Values.{shape_as}
use Rattle.nodes.specs.declared.run.Run.{Run}
use Rattle.nodes.specs.Nodes.{Node, glyph}
use Rattle.nodes.specs.Bounds.{greatest_length}
use Rattle.nodes.specs.Buffer.{put}
use Rattle.nodes.specs.Drawn.{Drawn, drawn_none, drawn_put}
use Rattle.nodes.specs.Kept.{kept_all, kept_more, kept_put}
use Rattle.nodes.specs.Hull.{around, HullWithin}
use Rattle.nodes.specs.Values.{RunIs, PointRun}
use Rattle.nodes.specs.RunLaws.{run_none, run_node}
use Rattle.arrange.specs.declared.Manner.{Manner}
use Rattle.setting.specs.Setting.{FieldBox, symbol_in, symbol_field_box, is_enlarged, sides_of, set_field, set_list}
use Rattle.setting.specs.Missing.{later, absent_at, missing_field}
use Rattle.setting.specs.Fitting.{field_fits, items_fit, box_fits}
use Rattle.walk_symbols.specs.declared.symbols.Symbol as symbols
use Rattle.walk_symbols.specs.Values.{symbol_as}
use Rattle.walk_fields.specs.declared.fields.FieldBox as fields
use Rattle.walk_fields.specs.declared.lines.Line as lines
use Rattle.walk_fields.specs.Values.{line_fits}
use Rattle.walk_fields.specs.Fields.{EmptyField, FieldDone, LineField}
use Rattle.walk_fields.specs.Lists.{ListDone}
use Rattle.walk_fields.specs.ListLaws.{line_fits_lem}

module _ (F : Font) (s : Style) (manner : Manner) (at end : ℕ) (b : List ℕ) where
  pub field_empty : (c : fields.FieldBox) → at ≤ end → EmptyField end c → FieldDone F s manner empty at end b (Ok c) b
  unfolding missing_field field_fits set_field
  field_empty c inside e =
      let none_there = e.run_is.count_is in
      let ends = e.end_is in (
        record {
          present = refl;
          end_is = e.end_is;
          large_is = e.run_is.large_is;
          small = record { shape = rw e.shape_is tt; count = omega arith; hull = rw e.run_is.hull_is tt };
          is = λ h. record { shape_is = ap shape_as e.shape_is; run_is = run_none e.run_is };
        },
        λ h. drawn_none b,
        kept_all (end - at) b,
      )

  module _ (family code : ℕ) (inside : at < end) where
    pub symbol_whole : (m : symbols.Symbol) (r : Run) (b' : List ℕ) →
        symbol_in F (font_size s) (is_enlarged manner) family code ≡ some (symbol_as m) → PointRun (pos 0) (pos 0) r →
        b' ≡ put (glyph (pos 0) (pos 0) (font_size s) family m.code) b →
        FieldDone F s manner (symbol family code) at end b (Ok (record { end = end; shape = Char m.metrics; run = r })) b'
    unfolding set_field symbol_field_box missing_field absent_at field_fits
    symbol_whole m r b' found point written =
        let n = glyph (pos 0) (pos 0) (font_size s) family m.code in
        let part : FieldBox = record { shape = char (metrics_as m.metrics); nodes = n ∷ [] } in
        let is : set_field F s manner (symbol family code) ≡ part = ap (symbol_field_box (font_size s) family) found in
        let nodes : (set_field F s manner (symbol family code)).nodes ≡ n ∷ [] = ap (λ (p : FieldBox). p.nodes) is in
        let zero : HullWithin greatest_length (around (pos 0) (pos 0) (pos 0) (pos 0)) =
        (omega arith, omega arith, omega arith, omega arith) in
        let one = point.count_is in (
          record {
            present = ap (absent_at at) found;
            end_is = refl;
            large_is = point.large_is;
            small = record { shape = tt; count = omega arith; hull = rw point.hull_is zero };
            is = λ q.
                record {
                  shape_is = sym (ap (λ (p : FieldBox). p.shape) is);
                  run_is = subst (λ (ns : List Node). RunIs ns r) (sym nodes) (run_node point refl);
                };
          },
          λ q. subst (λ (ns : List Node). Drawn ns b b') (sym nodes) (subst (λ (t : List ℕ). Drawn (n ∷ []) b t) (sym written) (drawn_put n b)),
          rw written (kept_more (omega arith) (kept_put n b)),
        )

    pub symbol_missing : symbol_in F (font_size s) (is_enlarged manner) family code ≡ none →
        FieldDone F s manner (symbol family code) at end b (Err (record { place = at })) b
    unfolding missing_field absent_at
    symbol_missing lacks = (ap (absent_at at) lacks, omega arith, kept_all _ b)

  -- the list's n bytes stand behind its opening
  module _ (l : Items) (n : ℕ) (goes : end ≡ at + list_opening_bytes (items_bytes l) + n) (b' : List ℕ) where
    pub list_whole : (line : lines.Line) (c : fields.FieldBox) → ListDone F (sides_of manner) s l n b (Ok line) b' → LineField end line c →
        FieldDone F s manner (list l) at end b (Ok c) b'
    unfolding missing_field field_fits set_field set_list later
    list_whole line c (w, drawn, kept) p =
        let fits : line_fits line ≡ field_fits F s manner (list l) = line_fits_lem w in
        let inner : field_fits F s manner (list l) ≡ true → items_fit F s l ≡ true = λ h. ((and-eq-true_iff (box_fits (set_list F (sides_of manner) s l)) (items_fit F s l)).0 h).1 in
        let few = p.count in
        let many = w.count in
        let ends = p.end_is in (
          record {
            present = ap (later (at + list_opening_bytes (items_bytes l))) w.present;
            end_is = p.end_is;
            large_is = p.large_is ∙ rw fits;
            small = record { shape = p.shape; count = omega arith; hull = p.hull };
            is = λ h.
                let own = p.is (fits ∙ h) in
                record {
                  shape_is = ap shape_as own.0 ∙ ap box (w.size_is (inner h));
                  run_is = subst (RunIs (set_list F (sides_of manner) s l).nodes) (sym own.1) (w.run_is (inner h));
                };
          },
          λ h. drawn (inner h),
          kept_more (omega arith) kept,
        )

    pub list_missing : (place : ℕ) → ListDone F (sides_of manner) s l n b (Err (record { place = place })) b' →
        FieldDone F s manner (list l) at end b (Err (record { place = at + list_opening_bytes (items_bytes l) + place })) b'
    unfolding missing_field later
    list_missing place (lacks, low, kept) =
        (ap (later (at + list_opening_bytes (items_bytes l))) lacks, omega arith, kept_more (omega arith) kept)
