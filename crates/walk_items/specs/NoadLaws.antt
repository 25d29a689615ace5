-- An item with fields, from its three fields.
--     item_lacks                                 the first missing symbol of an item is that of its fields, in their order
--     set_one, set_two, set_three, none_third    what stands so far in the buffer, field by field (`One`, `Two`, `Three`)
--     noad_added                                 all three stand there and the item is finished: it has gone behind the line
-- Assumes nothing.
use Rattle.std.specs.Prelude.{Result, Ok, Err, ◌≡◌, refl, Bool, true, false, not, ◌&&◌, ◌||◌, ℕ, ◌+◌, ◌-◌, ◌*◌, ◌≤◌, ℤ, pos, ◌+ℤ◌, length, take, drop}
use Rattle.std.proofs.Common.{sym, ◌∙◌, arith, length-drop, length-take-le}
use Rattle.std.proofs.Math.Path.{subst, ap, ap₂}
use Rattle.std.proofs.Math.Bool.{and-eq-true_iff}
use mathlib.Core.List.{List, [], ◌++◌, append_assoc}
use Rattle.std.proofs.Math.Option.{Option, none, some}
use borrow.Rule.Slice.PartMut.{put_mid}
use Rattle.font.specs.Font.{Font}
use Rattle.formula.specs.declared.Class.{Class}
use Rattle.formula.specs.declared.Kind.{Kind}
use Rattle.formula.specs.declared.Opening.TheVariants.{Fields}
use Rattle.formula.specs.Tree.{Field, opening_bytes}
use Rattle.formula.specs.Places.{has_third, second, third, third_end, end, field_in, third_in, item_of}
use Rattle.formula.specs.PlacesLaws.{Noad, second_field_lem, third_field_lem}
use Rattle.formula.specs.Format.{formula_limit}
use Rattle.boxes.specs.declared.styles.Style.{Style}
use Rattle.boxes.specs.Parameters.{Parameters}
use Rattle.spacing.specs.Classes.{Neighbour, class_of, changed_class}
use Rattle.spacing.specs.Spacing.{space_before}
use Rattle.boxes.specs.Boxes.{Arranged}
use Rattle.arrange.specs.declared.Manner.{Manner}
use Rattle.arrange.specs.declared.Manner.TheVariants.{Plain}
use Rattle.arrange.specs.Arrange.{arrange, own_counts, first_style, second_style, third_style, first_manner}
use Rattle.arrange.proofs.ArrangeLaws.{own_before, own_behind, few_own}
use Rattle.spacing.specs.Values.{neighbour_as}
use Rattle.boxes.specs.Values.{size_as, shape_as}
use Rattle.nodes.specs.Nodes.{Node, bytes_in_node, bytes_of, moved}
use Rattle.nodes.specs.Buffer.{room_for}
use Rattle.nodes.specs.Drawn.{Drawn}
use Rattle.nodes.specs.Kept.{Kept, kept_more, kept_then}
use Rattle.nodes.specs.Values.{is_large}
use Rattle.delimiters.specs.Delimiters.{Signs}
use Rattle.delimiters.specs.DelimiterLaws.{which_found}
use Rattle.setting.specs.Setting.{FieldBox, signs_in, has_signs, item_nodes, item_box, placed, set_field, set_item}
use Rattle.setting.proofs.SettingLaws.{signs_found}
use Rattle.setting.specs.Missing.{◌or_else◌, missing_field, missing_item}
use Rattle.setting.specs.Fitting.{field_fits, item_fits}
use Rattle.walk_fields.specs.declared.fields.FieldBox as fields
use Rattle.walk_fields.specs.declared.fields.Missing.{Missing}
use Rattle.walk_fields.specs.declared.lines.Line as lines
use Rattle.walk_fields.specs.Values.{bare_in}
use Rattle.walk_fields.specs.Bounds.{LineWithin}
use Rattle.walk_fields.specs.Fields.{EmptyField, FieldBoxWithin, FieldWhole, FieldDone}
use Rattle.walk_fields.specs.Lists.{HeadDone, Added}
use Rattle.walk_fields.specs.Lines.{beside_size}
use Rattle.walk_fields.specs.FieldBoxLaws.{field_empty}
use Rattle.walk_items.specs.Items.{FinishGiven, Finished, item_count, item_buffer}
use Rattle.walk_items.specs.ItemLaws.{item_count_lem, item_hull_lem, item_bytes_lem, item_kept}
use Rattle.walk_items.specs.Standing.{Laid, gap₁, gap₂, One, Two}
use Rattle.walk_items.specs.LaidLaws.{laid_start, laid_gap, laid_kept, laid_field, laid_none}

-- one of two is large
or_nots : (a b : Bool) → not a || not b ≡ not (a && b)
or_nots true b = refl
or_nots false b = refl

-- a field that was set, by equal names
pub head_by : (F : Font) (bytes b b' : List ℕ) (r : Result fields.FieldBox Missing) {st st' : Style} {m m' : Manner} {at at' : ℕ} → st ≡ st' →
    m ≡ m' → at ≡ at' → HeadDone F st m bytes at b r b' → HeadDone F st' m' bytes at' b r b'
head_by F bytes b b' r {st} {st'} {m} {m'} {at} {at'} style manner place d =
    subst (λ (at : ℕ). HeadDone F st' m' bytes at b r b') place
    (subst (λ (m : Manner). HeadDone F st' m bytes at b r b') manner (subst (λ (st : Style). HeadDone F st m bytes at b r b') style d))

-- and by equal results
pub head_as : (F : Font) (bytes b b' : List ℕ) {st st' : Style} {m m' : Manner} {at at' : ℕ} {r r' : Result fields.FieldBox Missing} → st ≡ st' → m ≡ m' →
    at ≡ at' → r ≡ r' → HeadDone F st m bytes at b r b' → HeadDone F st' m' bytes at' b r' b'
head_as F bytes b b' {st} {st'} {m} {m'} {at} {at'} {r} {r'} style manner place is d =
    subst (λ (r : Result fields.FieldBox Missing). HeadDone F st' m' bytes at' b r b') is (head_by F bytes b b' r style manner place d)

-- an item that was finished by the parameters P, where these are Q
pub finished_by : {P Q : Parameters} {s : Style} {kind : Kind} {signs : Signs} {right : Neighbour} {l r : lines.Line} {a b c : fields.FieldBox} {v v' : List ℕ} →
    P ≡ Q → Finished P s kind signs right l a b c r v v' → Finished Q s kind signs right l a b c r v v'
finished_by {s = s} {kind} {signs} {right} {l} {r} {a} {b} {c} {v} {v'} e d =
    subst (λ (P : Parameters). Finished P s kind signs right l a b c r v v') e d

-- the fields of the item at the head of some bytes, each set alone
module _ (F : Font) (s : Style) (kind : Kind) (bytes : List ℕ) where
  abbrev pub first_field : Field
  first_field = field_in bytes (opening_bytes kind)

  abbrev pub second_field : Field
  second_field = field_in bytes (second bytes kind)

  abbrev pub third_field : Field
  third_field = third_in bytes (has_third kind) (third bytes kind)

  abbrev pub first_box : FieldBox
  first_box = set_field F (first_style kind s) (first_manner kind s) first_field

  abbrev pub second_box : FieldBox
  second_box = set_field F (second_style kind s) Plain second_field

  abbrev pub third_box : FieldBox
  third_box = set_field F (third_style s) Plain third_field

  abbrev pub first_fits : Bool
  first_fits = field_fits F (first_style kind s) (first_manner kind s) first_field

  abbrev pub second_fits : Bool
  second_fits = field_fits F (second_style kind s) Plain second_field

  abbrev pub third_fits : Bool
  third_fits = field_fits F (third_style s) Plain third_field

  abbrev pub first_missing : Option ℕ
  first_missing = missing_field F (first_style kind s) (first_manner kind s) (opening_bytes kind) first_field

  abbrev pub second_missing : Option ℕ
  second_missing = missing_field F (second_style kind s) Plain (second bytes kind) second_field

  abbrev pub third_missing : Option ℕ
  third_missing = missing_field F (third_style s) Plain (third bytes kind) third_field

  abbrev pub FirstWhole : fields.FieldBox → Type 0
  FirstWhole a = FieldWhole F (first_style kind s) (first_manner kind s) first_field (opening_bytes kind) (second bytes kind) a

  abbrev pub SecondWhole : fields.FieldBox → Type 0
  SecondWhole b = FieldWhole F (second_style kind s) Plain second_field (second bytes kind) (third bytes kind) b

  abbrev pub ThirdWhole : fields.FieldBox → Type 0
  ThirdWhole c = FieldWhole F (third_style s) Plain third_field (third bytes kind) (end bytes kind) c

  pub item_lacks : Noad bytes kind → missing_item F s (item_of bytes (Fields kind)) ≡ (first_missing or_else second_missing or_else third_missing)
  unfolding missing_item
  item_lacks noad =
      ap₂ (λ (y z : ℕ). first_missing or_else missing_field F (second_style kind s) Plain y second_field or_else missing_field F (third_style s) Plain z third_field)
      (second_field_lem bytes kind noad) (third_field_lem bytes kind noad)

  pub first_lacks : {place : ℕ} → Noad bytes kind → first_missing ≡ some place → missing_item F s (item_of bytes (Fields kind)) ≡ some place
  first_lacks noad first = item_lacks noad ∙ rw first

  pub second_lacks : {place : ℕ} → Noad bytes kind → first_missing ≡ none → second_missing ≡ some place →
      missing_item F s (item_of bytes (Fields kind)) ≡ some place
  second_lacks noad first second = item_lacks noad ∙ rw (first, second)

  pub third_lacks : {m : Option ℕ} → Noad bytes kind → first_missing ≡ none → second_missing ≡ none → third_missing ≡ m →
      missing_item F s (item_of bytes (Fields kind)) ≡ m
  third_lacks noad first second third = item_lacks noad ∙ rw (first, second, third)

  -- what stands so far in the buffer v, which was b₀: all three fields
  pub record Three (o₁ o₂ : ℕ) (b₀ : List ℕ) (a b c : fields.FieldBox) (v : List ℕ) : Type 0 where
    pub noad : Noad bytes kind
    pub own₁ : o₁ ≡ (own_counts F.parameter s kind (has_signs F s kind)).before
    pub own₂ : o₂ ≡ (own_counts F.parameter s kind (has_signs F s kind)).behind
    pub first_whole : FirstWhole a
    pub second_whole : SecondWhole b
    pub third_whole : ThirdWhole c
    pub so : Laid b₀ (end bytes kind) (o₁ + a.run.count + o₂ + b.run.count + c.run.count) (first_fits && second_fits && third_fits)
        ((((gap₁ a o₁ o₂ b₀ ++ bytes_of first_box.nodes) ++ gap₂ a o₁ o₂ b₀) ++ bytes_of second_box.nodes) ++ bytes_of third_box.nodes) v

  -- the third field, or its first missing symbol
  abbrev pub LastDone : ℕ → ℕ → List ℕ → fields.FieldBox → fields.FieldBox → Result fields.FieldBox Missing → List ℕ → Type 0
  LastDone o₁ o₂ b₀ a b (Ok c) v = Three o₁ o₂ b₀ a b c v
  LastDone o₁ o₂ b₀ a b (Err m) v =
      Kept (end bytes kind) b₀ v × (third_missing ≡ some m.place) × (m.place ≤ end bytes kind)

  -- before its fields an item has two own nodes at most, and at least so many bytes
  own_few : {o₁ o₂ : ℕ} → Noad bytes kind → o₁ ≡ (own_counts F.parameter s kind (has_signs F s kind)).before →
      o₂ ≡ (own_counts F.parameter s kind (has_signs F s kind)).behind → o₁ + o₂ ≤ opening_bytes kind
  own_few noad own₁ own₂ = omega (arith, few_own F.parameter s kind (has_signs F s kind), noad.opened)

  module _ {o₁ o₂ j : ℕ} (b₀ r : List ℕ) (noad : Noad bytes kind) (own₁ : o₁ ≡ (own_counts F.parameter s kind (has_signs F s kind)).before)
      (own₂ : o₂ ≡ (own_counts F.parameter s kind (has_signs F s kind)).behind) (at : j ≡ room_for o₁ (length b₀)) where
    -- the first field's part of the buffer, and what its setter came to
    abbrev FirstSet : Result fields.FieldBox Missing → Type 0
    FirstSet x =
        HeadDone F (first_style kind s) (first_manner kind s) bytes (opening_bytes kind) (take (length b₀ - j) (drop j b₀)) x r

    front : Laid b₀ (opening_bytes kind) o₁ true (take (bytes_in_node * o₁) b₀) b₀
    front = laid_start b₀ o₁ (omega (arith, own_few noad own₁ own₂))

    pub set_one : {a : fields.FieldBox} → FirstSet (Ok a) → One F s kind bytes o₁ o₂ b₀ a (put_mid j (length b₀ - j) b₀ r)
    set_one {a} (first_whole, drawn, kept) =
        let own = own_few noad own₁ own₂ in
        let behind = noad.first_in in
        let count = first_whole.small.count in
        let ends = first_whole.end_is in
        record {
          noad = noad;
          own₁ = own₁;
          own₂ = own₂;
          first_whole = first_whole;
          so =
              laid_gap
              (laid_field front {k = a.run.count} {m' = second bytes kind} first_box.nodes (omega arith) (omega arith) at
              (λ h. (first_whole.is h).run_is.count_is) drawn kept)
              o₂ (omega arith);
        }

    pub lacks_one : {m : Missing} → FirstSet (Err m) →
        Kept (end bytes kind) b₀ (put_mid j (length b₀ - j) b₀ r) × (first_missing ≡ some m.place) × (m.place ≤ end bytes kind)
    lacks_one (lacks, low, kept) =
        let first = noad.first_in in
        let second = noad.second_in in
        let third = noad.third_in_lem in
        (laid_kept front (omega arith) at kept, lacks, omega arith)

  module _ {o₁ o₂ j : ℕ} {b₀ v : List ℕ} {a : fields.FieldBox} (one : One F s kind bytes o₁ o₂ b₀ a v) (r : List ℕ)
      (at : j ≡ room_for (o₁ + a.run.count + o₂) (length v)) where
    abbrev SecondSet : Result fields.FieldBox Missing → Type 0
    SecondSet y = HeadDone F (second_style kind s) Plain bytes (second bytes kind) (take (length v - j) (drop j v)) y r

    pub set_two : {b : fields.FieldBox} → SecondSet (Ok b) → Two F s kind bytes o₁ o₂ b₀ a b (put_mid j (length v - j) v r)
    set_two {b} (second_whole, drawn, kept) =
        let few = one.so.few in
        let behind = one.noad.second_in in
        let count = second_whole.small.count in
        let ends = second_whole.end_is in
        record {
          noad = one.noad;
          own₁ = one.own₁;
          own₂ = one.own₂;
          first_whole = one.first_whole;
          second_whole = second_whole;
          so =
              laid_field one.so {k = b.run.count} {m' = third bytes kind} second_box.nodes (omega arith) (omega arith) at
              (λ h. (second_whole.is h).run_is.count_is) drawn kept;
        }

    pub lacks_two : {m : Missing} → SecondSet (Err m) →
        Kept (end bytes kind) b₀ (put_mid j (length v - j) v r) × (second_missing ≡ some m.place) × (m.place ≤ end bytes kind)
    lacks_two (lacks, low, kept) =
        let second = one.noad.second_in in
        let third = one.noad.third_in_lem in
        (laid_kept one.so (omega arith) at kept, lacks, omega arith)

  module _ {o₁ o₂ : ℕ} {b₀ v : List ℕ} {a b : fields.FieldBox} (two : Two F s kind bytes o₁ o₂ b₀ a b v) where
    three : {c : fields.FieldBox} {v' : List ℕ} → ThirdWhole c →
        Laid b₀ (end bytes kind) (o₁ + a.run.count + o₂ + b.run.count + c.run.count) (first_fits && second_fits && third_fits)
        ((((gap₁ a o₁ o₂ b₀ ++ bytes_of first_box.nodes) ++ gap₂ a o₁ o₂ b₀) ++ bytes_of second_box.nodes) ++ bytes_of third_box.nodes) v' →
        Three o₁ o₂ b₀ a b c v'
    three third_whole so =
        record { noad = two.noad; own₁ = two.own₁; own₂ = two.own₂; first_whole = two.first_whole; second_whole = two.second_whole; third_whole = third_whole; so = so }

    pub set_three : {j : ℕ} (z : Result fields.FieldBox Missing) (r : List ℕ) → has_third kind ≡ true →
        j ≡ room_for (o₁ + a.run.count + o₂ + b.run.count) (length v) →
        HeadDone F (third_style s) Plain bytes (third bytes kind) (take (length v - j) (drop j v)) z r →
        LastDone o₁ o₂ b₀ a b z (put_mid j (length v - j) v r)
    set_three {j} z r has at d =
        let lent = take (length v - j) (drop j v) in
        let here : FieldDone F (third_style s) Plain third_field (third bytes kind) (end bytes kind) lent z r =
        subst (λ (t : Bool). FieldDone F (third_style s) Plain (third_in bytes t (third bytes kind)) (third bytes kind) (third_end bytes t (third bytes kind)) lent z r)
        (sym has) d in
        go z here
      where
        go : (z : Result fields.FieldBox Missing) → FieldDone F (third_style s) Plain third_field (third bytes kind) (end bytes kind) (take (length v - j) (drop j v)) z r →
            LastDone o₁ o₂ b₀ a b z (put_mid j (length v - j) v r)
        go (Ok c) (third_whole, drawn, kept) =
            let few = two.so.few in
            let behind = two.noad.third_in_lem in
            let count = third_whole.small.count in
            let ends = third_whole.end_is in
            three third_whole
            (laid_field two.so {k = c.run.count} {m' = end bytes kind} third_box.nodes (omega arith) (omega arith) at
            (λ h. (third_whole.is h).run_is.count_is) drawn kept)
        go (Err m) (lacks, low, kept) =
            let behind = two.noad.third_in_lem in
            (laid_kept two.so (omega arith) at kept, lacks, low)

    pub none_third : (c : fields.FieldBox) → has_third kind ≡ false → EmptyField b.end c → Three o₁ o₂ b₀ a b c v
    unfolding set_field bytes_of
    none_third c has e =
        let k = third bytes kind in
        let ends : EmptyField k c = subst (λ (n : ℕ). EmptyField n c) two.second_whole.end_is e in
        let done : FieldDone F (third_style s) Plain (third_in bytes (has_third kind) k) k (third_end bytes (has_third kind) k) v (Ok c) v =
        subst (λ (t : Bool). FieldDone F (third_style s) Plain (third_in bytes t k) k (third_end bytes t k) v (Ok c) v) (sym has)
        (field_empty F (third_style s) Plain k k v c (omega arith) ends) in
        let blank : third_box.nodes ≡ [] = ap (λ (t : Bool). (set_field F (third_style s) Plain (third_in bytes t k)).nodes) has in
        let n = o₁ + a.run.count + o₂ + b.run.count + c.run.count in
        let w = ((gap₁ a o₁ o₂ b₀ ++ bytes_of first_box.nodes) ++ gap₂ a o₁ o₂ b₀) ++ bytes_of second_box.nodes in
        three done.0
        (subst (λ (ns : List Node). Laid b₀ (end bytes kind) n (first_fits && second_fits && third_fits) (w ++ bytes_of ns) v) (sym blank)
        (laid_none two.so third_fits two.noad.third_in_lem e.run_is.count_is))

  -- the item is finished: the line l, of the style s, became r, and the buffer v'
  pub record NoadSet (beyond right : Neighbour) (l r : lines.Line) (o₁ o₂ : ℕ) (b₀ : List ℕ) (a b c : fields.FieldBox) (v v' : List ℕ) : Type 0 where
    pub here : l.style ≡ s
    pub signs : Signs
    pub signs_is : signs ≡ signs_in F s kind (shape_as a.shape)
    pub fields : Three o₁ o₂ b₀ a b c v
    pub alike : (left : Neighbour) → changed_class left (class_of kind) right ≡ changed_class left (class_of kind) beyond
    pub done : Finished F.parameter s kind signs right l a b c r v v'

  module _ {beyond right : Neighbour} {l r : lines.Line} {a b c : fields.FieldBox} {o₁ o₂ : ℕ} {b₀ v v' : List ℕ}
      (set : NoadSet beyond right l r o₁ o₂ b₀ a b c v v') where
    abbrev P : Parameters
    P = F.parameter

    abbrev left : Neighbour
    left = neighbour_as l.left

    abbrev class : Class
    class = changed_class left (class_of kind) beyond

    -- what the definition makes of it
    abbrev at : ℤ
    at = l.size.width.0 +ℤ space_before P s left class

    abbrev A : Arranged
    A = arrange P s kind (signs_in F s kind first_box.shape) first_box.shape second_box.shape third_box.shape

    abbrev nodes : List Node
    nodes = moved at (pos 0) (item_nodes A first_box second_box third_box)

    abbrev total : ℕ
    total = o₁ + a.run.count + o₂ + b.run.count + c.run.count

    class_is : set.done.class ≡ class
    class_is = set.done.class_is ∙ set.alike left

    at_is : set.done.x ≡ at
    at_is = set.done.x_is ∙ ap (λ (k : Class). l.size.width.0 +ℤ space_before P s left k) class_is

    abbrev Fits : Type 0
    Fits = first_fits && second_fits && third_fits ≡ true

    first_fits_lem : Fits → first_fits ≡ true
    first_fits_lem h = ((and-eq-true_iff first_fits second_fits).0 ((and-eq-true_iff (first_fits && second_fits) third_fits).0 h).0).0

    second_fits_lem : Fits → second_fits ≡ true
    second_fits_lem h = ((and-eq-true_iff first_fits second_fits).0 ((and-eq-true_iff (first_fits && second_fits) third_fits).0 h).0).1

    third_fits_lem : Fits → third_fits ≡ true
    third_fits_lem h = ((and-eq-true_iff (first_fits && second_fits) third_fits).0 h).1

    arranged_is : Fits → set.done.arranged ≡ A
    arranged_is h =
        set.done.arranged_is
        ∙ rw (set.signs_is, (set.fields.first_whole.is (first_fits_lem h)).shape_is, (set.fields.second_whole.is (second_fits_lem h)).shape_is, (set.fields.third_whole.is (third_fits_lem h)).shape_is)

    -- how many own nodes there are, whatever the fields hold: on which sides there is a sign does not depend on the fields
    found_is : which_found set.signs ≡ has_signs F s kind
    found_is = ap which_found set.signs_is ∙ signs_found F s kind (shape_as a.shape)

    own_before_is : length set.done.arranged.own.before ≡ o₁
    own_before_is =
        ap (λ (B : Arranged). length B.own.before) set.done.arranged_is
        ∙ own_before P s kind set.signs _ _ _ found_is
        ∙ sym set.fields.own₁

    own_behind_is : length set.done.arranged.own.behind ≡ o₂
    own_behind_is =
        ap (λ (B : Arranged). length B.own.behind) set.done.arranged_is
        ∙ own_behind P s kind set.signs _ _ _ found_is
        ∙ sym set.fields.own₂

    few : item_count set.done.x set.done.arranged a.run.count b.run.count c.run.count ≤ end bytes kind
    few = omega (arith, set.fields.so.few, own_before_is, own_behind_is)

    kept : Kept (end bytes kind) b₀ v'
    kept =
        kept_then set.fields.so.kept
        (rw set.done.buffer_is (kept_more few (item_kept set.done.x set.done.arranged a.run.count b.run.count c.run.count v)))

    count_is : Fits → length nodes ≡ total
    count_is h =
        let first = (set.fields.first_whole.is (first_fits_lem h)).run_is.count_is in
        let second = (set.fields.second_whole.is (second_fits_lem h)).run_is.count_is in
        let third = (set.fields.third_whole.is (third_fits_lem h)).run_is.count_is in
        let A-is = arranged_is h in
        let e₁ = ap (λ (B : Arranged). length B.own.before) A-is in
        let e₂ = ap (λ (B : Arranged). length B.own.behind) A-is in
        omega (arith, item_count_lem at A first_box second_box third_box, own_before_is, own_behind_is)

    drawn : Fits → Drawn nodes b₀ v'
    drawn h room =
        let first = (set.fields.first_whole.is (first_fits_lem h)).run_is.count_is in
        let second = (set.fields.second_whole.is (second_fits_lem h)).run_is.count_is in
        let third = (set.fields.third_whole.is (third_fits_lem h)).run_is.count_is in
        let count = count_is h in
        let A-is = arranged_is h in
        let e₁ = ap (λ (B : Arranged). length B.own.before) A-is in
        let e₂ = ap (λ (B : Arranged). length B.own.behind) A-is in
        let rest = drop (bytes_in_node * total) b₀ in
        let g₁ = gap₁ a o₁ o₂ b₀ in
        let g₂ = gap₂ a o₁ o₂ b₀ in
        let long₁ : length g₁ ≡ bytes_in_node * length A.own.before =
        length-take-le (bytes_in_node * o₁) b₀ (omega arith) ∙ omega (arith, own_before_is) in
        let behind = drop (bytes_in_node * (o₁ + a.run.count)) b₀ in
        let long₂ : length g₂ ≡ bytes_in_node * length A.own.behind =
        length-take-le (bytes_in_node * o₂) behind (omega (arith, length-drop (bytes_in_node * (o₁ + a.run.count)) b₀))
        ∙ omega (arith, own_behind_is) in
        let stands : v ≡ g₁ ++ (bytes_of first_box.nodes ++ (g₂ ++ (bytes_of second_box.nodes ++ (bytes_of third_box.nodes ++ rest)))) =
        (set.fields.so.laid h (omega arith)).1 ∙ simp append_assoc in
        set.done.buffer_is
        ∙ ap (λ (z : ℤ). item_buffer z set.done.arranged a.run.count b.run.count c.run.count v) at_is
        ∙ ap (λ (B : Arranged). item_buffer at B a.run.count b.run.count c.run.count v) A-is
        ∙ ap (λ (k : ℕ). item_buffer at A k b.run.count c.run.count v) first
        ∙ ap (λ (k : ℕ). item_buffer at A (length first_box.nodes) k c.run.count v) second
        ∙ ap (λ (k : ℕ). item_buffer at A (length first_box.nodes) (length second_box.nodes) k v) third
        ∙ ap (item_buffer at A (length first_box.nodes) (length second_box.nodes) (length third_box.nodes)) stands
        ∙ item_bytes_lem at A first_box second_box third_box g₁ g₂ rest long₁ long₂
        ∙ ap (λ (k : ℕ). bytes_of nodes ++ drop (bytes_in_node * k) b₀) (sym count)

    pub noad_added : Added (item_fits F s (item_of bytes (Fields kind))) (set_item F beyond (bare_in s l) (item_of bytes (Fields kind)))
        (end bytes kind) l b₀ r v'
    unfolding item_fits set_item placed item_box
    noad_added =
        record {
          large_is =
              set.done.large_is
              ∙ ap (λ (t : Bool). is_large l.run || t)
              (rw (set.fields.first_whole.large_is, set.fields.second_whole.large_is, set.fields.third_whole.large_is, or_nots first_fits second_fits) (or_nots (first_fits && second_fits) third_fits));
          more = omega (arith, set.done.count_is);
          few = omega (arith, set.done.count_is, few);
          grows = λ k w. set.done.grows k (end bytes kind) w set.fields.noad.long few;
          style_is = set.done.style_is ∙ set.here;
          left_is = λ h. ap neighbour_as set.done.left_is ∙ ap some class_is;
          size_is = λ h.
              set.done.size_is
              ∙ ap₂ (λ (z : ℤ) (B : Arranged). beside_size z (size_as l.size) B.size) at_is (arranged_is h);
          count_is = λ h. omega (arith, set.done.count_is, own_before_is, own_behind_is, count_is h);
          hull_is = λ h.
              set.done.hull_is
              ∙ rw (
                at_is,
                arranged_is h,
                (set.fields.first_whole.is (first_fits_lem h)).run_is.hull_is,
                (set.fields.second_whole.is (second_fits_lem h)).run_is.hull_is,
                (set.fields.third_whole.is (third_fits_lem h)).run_is.hull_is,
                item_hull_lem at A first_box second_box third_box,
              );
          drawn = drawn;
          kept = kept;
        }

  -- what is asked to finish an item, and what it comes to
  pub finish_given : {l : lines.Line} {o₁ o₂ : ℕ} {b₀ v : List ℕ} {a b c : fields.FieldBox} → Three o₁ o₂ b₀ a b c v → LineWithin formula_limit l →
      length bytes ≤ formula_limit → FinishGiven l a b c
  finish_given {b = b} {c = c} three line short =
      let ends = three.third_whole.end_is in
      let inside = three.noad.end_in in
      record {
        line = line;
        short = omega arith;
        from = opening_bytes kind;
        first = three.first_whole.small;
        second = subst (λ (n : ℕ). FieldBoxWithin n b) (sym three.first_whole.end_is) three.second_whole.small;
        third = subst (λ (n : ℕ). FieldBoxWithin n c) (sym three.second_whole.end_is) three.third_whole.small;
      }
