-- An item whose fields stand in the buffer, and its own nodes and the fields' at their places.
--     item_moved                  its nodes in the list, part by part
--     item_count_lem, item_hull_lem       how many they are, and how far they reach
--     item_bytes_lem                  what becomes of the buffer: a part that was set is moved, and a gap is filled
--     item_kept                   what stays of the buffer, whatever the fields came to
--     item_reach, item_grows      how far the nodes of an item, and the line with it, lie from zero
-- Assumes nothing.
use Rattle.std.specs.Prelude.{◌≡◌, refl, Option, Some, None, List, [], ◌∷◌, ◌++◌, ℕ, ◌+◌, ◌*◌, ◌≤◌, ℤ, pos, ◌+ℤ◌, length, take, drop}
use Rattle.std.proofs.Common.{sym, ap₂, ◌∙◌, append-nil, append_assoc, arith, length-append, length-drop, take-append-drop, length-take-le}
use Rattle.std.proofs.Math.Path.{ap}
use Rattle.scaled.specs.Length.{max_ℤ}
use Rattle.scaled.specs.Signed.{Within}
use Rattle.scaled.specs.Linear.{#, ◌⊕◌, greatest}
use Rattle.scaled.proofs.Linear.{eq_by, within_by}
use Rattle.boxes.specs.declared.Offset.{Offset as CodeOffset}
use Rattle.boxes.specs.declared.Glyph as glyphs
use Rattle.boxes.specs.declared.Rule as rules
use Rattle.boxes.specs.declared.Owned.{Owned}
use Rattle.boxes.specs.declared.Arranged.{Arranged as CodeArranged}
use Rattle.boxes.specs.Boxes.{Size, Offset, Rule, Glyph, OwnNode, ruled, signed, Arranged}
use Rattle.boxes.specs.Values.{size_as, signing_as, ruling_as, owned_as, arranged_as}
use Rattle.boxes.specs.Bounds.{words, item_words, OffsetWithin, SigningWithin, RulingWithin, OwnedWithin, Bounded}
use Rattle.nodes.specs.Nodes.{Node, glyph, rule, moved, moved_node, bytes_in_node, node_bytes, bytes_of}
use Rattle.nodes.specs.Bounds.{greatest_length}
use Rattle.nodes.specs.NodeLaws.{length_node_bytes, length_bytes, bytes_append, length_moved, moved_append, moved_twice}
use Rattle.nodes.specs.Buffer.{put, moved_front, behind_nodes}
use Rattle.nodes.specs.BufferLaws.{behind_at_lem, moved_run_at, put_at}
use Rattle.nodes.specs.Kept.{Kept, kept_all, kept_more, kept_then, kept_put, kept_moved, kept_behind}
use Rattle.nodes.specs.Hull.{Hull, hull, joined, moved_hull, HullWithin}
use Rattle.nodes.specs.HullLaws.{hull_append, hull_moved, join_assoc, join_within, moved_within, within_more}
use Rattle.nodes.specs.declared.run.Run.{Run}
use Rattle.nodes.specs.Values.{hull_of}
use Rattle.setting.specs.Setting.{FieldBox, own_node, own_nodes, item_nodes}
use Rattle.setting.proofs.SettingLaws.{length_own}
use Rattle.walk_fields.specs.declared.lines.Line as lines
use Rattle.walk_fields.specs.Bounds.{stride, LineWithin}
use Rattle.walk_fields.specs.Lines.{beside_size}
use Rattle.walk_items.specs.Items.{own_put, OwnPut, first_at, behind_at, second_at, third_at, item_count, item_buffer, item_hull}

-- ---- the nodes of an item in its list, where the item stands at x

other_way : (a b : ℤ) → a +ℤ b ≡ b +ℤ a
other_way a b = eq_by (# a ⊕ # b) (# b ⊕ # a) (omega arith)

zero_place : (z : ℤ) → z +ℤ pos 0 ≡ z
zero_place z = eq_by (# z ⊕ # (pos 0)) (# z) (omega arith)

-- a field's nodes at a place of the item
abbrev placed_at : ℤ → Offset → List Node → List Node
placed_at x p ns = moved (x +ℤ p.across) p.up ns

placed_is : (x : ℤ) (p : Offset) (ns : List Node) → moved x (pos 0) (moved p.across p.up ns) ≡ placed_at x p ns
placed_is x p ns = rw (moved_twice x (pos 0) p.across p.up ns, other_way p.across x, zero_place p.up)

-- a sign of the item, as the code places it
pub sign_moved : (x : ℤ) (g : Glyph) →
    moved_node x (pos 0) (own_node (signed g)) ≡ glyph (x +ℤ g.place.across) g.place.up g.size g.family g.code
sign_moved x g = rw (other_way g.place.across x, zero_place g.place.up)

-- a rule of the item, as the code places it
pub rule_moved : (x : ℤ) (r : Rule) →
    moved_node x (pos 0) (own_node (ruled r)) ≡ rule (x +ℤ r.corner.across) r.corner.up r.width r.thickness
rule_moved x r = rw (other_way r.corner.across x, zero_place r.corner.up)

-- ---- a buffer, part by part: w stands before

-- nodes that have been set are moved
moved_behind : (dx dy : ℤ) (ns : List Node) (n : ℕ) (w r : List ℕ) → length w ≡ bytes_in_node * n →
    behind_nodes n (moved_front dx dy (length ns)) (w ++ (bytes_of ns ++ r)) ≡ (w ++ bytes_of (moved dx dy ns)) ++ r
moved_behind dx dy ns n w r long =
    behind_at_lem n (moved_front dx dy (length ns)) w (bytes_of ns ++ r) long
    ∙ ap (λ (l : List ℕ). w ++ l) (moved_run_at dx dy ns r refl)
    ∙ sym (append_assoc w (bytes_of (moved dx dy ns)) r)

-- a gap g is filled with own nodes
own_behind : (x : ℤ) (rs : List OwnNode) (n : ℕ) (w g r : List ℕ) → length w ≡ bytes_in_node * n →
    length g ≡ bytes_in_node * length rs →
    own_put x n rs (w ++ (g ++ r)) ≡ (w ++ bytes_of (moved x (pos 0) (own_nodes rs))) ++ r
unfolding own_put own_nodes moved bytes_of
own_behind x [] n w [] r long gap = ap (λ (l : List ℕ). l ++ r) (sym (append-nil w))
own_behind x [] n w (a ∷ g) r long gap = absurd (omega arith)
own_behind x (q ∷ rs) n w g r long gap =
    let node = moved_node x (pos 0) (own_node q) in
    let a = node_bytes node in
    let g₁ = take bytes_in_node g in
    let g₂ = drop bytes_in_node g in
    let own : length g₁ ≡ bytes_in_node = length-take-le bytes_in_node g (omega arith) in
    let left : length g₂ ≡ bytes_in_node * length rs = omega (arith, length-drop bytes_in_node g) in
    let more : length (w ++ a) ≡ bytes_in_node * (n + 1) = omega (arith, length-append w a, length_node_bytes node) in
    let others = bytes_of (moved x (pos 0) (own_nodes rs)) in
    let step : behind_nodes n (put node) (w ++ (g ++ r)) ≡ (w ++ a) ++ (g₂ ++ r) =
    ap (λ (l : List ℕ). behind_nodes n (put node) (w ++ (l ++ r))) (sym (take-append-drop bytes_in_node g))
    ∙ ap (λ (l : List ℕ). behind_nodes n (put node) (w ++ l)) (append_assoc g₁ g₂ r)
    ∙ behind_at_lem n (put node) w (g₁ ++ (g₂ ++ r)) long
    ∙ ap (λ (l : List ℕ). w ++ l) (put_at node g₁ (g₂ ++ r) own)
    ∙ sym (append_assoc w a (g₂ ++ r)) in
    ap (own_put x (n + 1) rs) step
    ∙ own_behind x rs (n + 1) (w ++ a) g₂ r more left
    ∙ ap (λ (l : List ℕ). l ++ r) (append_assoc w a others)

-- ---- an item arranged as A at x

module _ (x : ℤ) (A : Arranged) where
  abbrev ahead : List Node
  ahead = moved x (pos 0) (own_nodes A.own.before)

  abbrev owned : List Node
  owned = moved x (pos 0) (own_nodes A.own.behind)

  length_ahead : length ahead ≡ length A.own.before
  length_ahead = length_moved x (pos 0) (own_nodes A.own.before) ∙ length_own A.own.before

  length_owned : length owned ≡ length A.own.behind
  length_owned = length_moved x (pos 0) (own_nodes A.own.behind) ∙ length_own A.own.behind

  module _ (X Y Z : FieldBox) where
    abbrev first : List Node
    first = placed_at x A.first X.nodes

    abbrev second : List Node
    second = placed_at x A.second Y.nodes

    abbrev third : List Node
    third = placed_at x A.third Z.nodes

    item_moved : moved x (pos 0) (item_nodes A X Y Z) ≡ ahead ++ first ++ owned ++ second ++ third
    unfolding item_nodes
    item_moved =
        rw (← placed_is x A.first X.nodes, ← placed_is x A.second Y.nodes, ← placed_is x A.third Z.nodes)
        (simp moved_append)

    pub item_count_lem : length (moved x (pos 0) (item_nodes A X Y Z))
        ≡ item_count x A (length X.nodes) (length Y.nodes) (length Z.nodes)
    item_count_lem =
        ap length item_moved
        ∙ simp (length-append, length_ahead, length_owned, length_moved)

    pub item_hull_lem : hull (moved x (pos 0) (item_nodes A X Y Z)) ≡ item_hull x A (hull X.nodes) (hull Y.nodes) (hull Z.nodes)
    unfolding joined
    item_hull_lem = ap hull item_moved ∙ simp (hull_append, hull_moved)

    -- the fields stand in the buffer, with gaps g₁ and g₂ for the item's own nodes
    pub item_bytes_lem : (g₁ g₂ rest : List ℕ) → length g₁ ≡ bytes_in_node * length A.own.before →
        length g₂ ≡ bytes_in_node * length A.own.behind →
        item_buffer x A (length X.nodes) (length Y.nodes) (length Z.nodes)
        (g₁ ++ (bytes_of X.nodes ++ (g₂ ++ (bytes_of Y.nodes ++ (bytes_of Z.nodes ++ rest)))))
        ≡ bytes_of (moved x (pos 0) (item_nodes A X Y Z)) ++ rest
    item_bytes_lem g₁ g₂ rest long₁ long₂ =
        let w₁ = bytes_of ahead in
        let w₂ = w₁ ++ bytes_of first in
        let w₃ = w₂ ++ bytes_of owned in
        let w₄ = w₃ ++ bytes_of second in
        let r₄ = bytes_of Z.nodes ++ rest in
        let r₃ = bytes_of Y.nodes ++ r₄ in
        let r₂ = g₂ ++ r₃ in
        let r₁ = bytes_of X.nodes ++ r₂ in
        let l₁ : length w₁ ≡ bytes_in_node * length A.own.before = omega (arith, length_bytes ahead, length_ahead) in
        let l₂ : length w₂ ≡ bytes_in_node * (length A.own.before + length X.nodes) =
        omega (
          arith,
          length-append w₁ (bytes_of first),
          length_bytes first,
          length_moved (x +ℤ A.first.across) A.first.up X.nodes,
        ) in
        let l₃ : length w₃ ≡ bytes_in_node * (length A.own.before + length X.nodes + length A.own.behind) =
        omega (arith, length-append w₂ (bytes_of owned), length_bytes owned, length_owned) in
        let l₄ : length w₄ ≡ bytes_in_node * (length A.own.before + length X.nodes + length A.own.behind + length Y.nodes) =
        omega (
          arith,
          length-append w₃ (bytes_of second),
          length_bytes second,
          length_moved (x +ℤ A.second.across) A.second.up Y.nodes,
        ) in
        rw (
          own_behind x A.own.before 0 [] g₁ r₁ (omega arith) long₁,
          moved_behind (x +ℤ A.first.across) A.first.up X.nodes (length A.own.before) w₁ r₂ l₁,
          own_behind x A.own.behind (length A.own.before + length X.nodes) w₂ g₂ r₃ l₂ long₂,
          moved_behind (x +ℤ A.second.across) A.second.up Y.nodes _ w₃ r₄ l₃,
          moved_behind (x +ℤ A.third.across) A.third.up Z.nodes _ w₄ rest l₄,
          item_moved,
        )
        (simp bytes_append)

-- ---- what is kept

own_kept : (x : ℤ) (rs : List OwnNode) (n : ℕ) (b : List ℕ) → Kept (n + length rs) b (own_put x n rs b)
unfolding own_put
own_kept x [] n b = kept_all (n + 0) b
own_kept x (r ∷ rs) n b =
    let node = moved_node x (pos 0) (own_node r) in
    let first : Kept (n + 1) b (behind_nodes n (put node) b) = kept_behind n 1 (put node) b (kept_put node) in
    let others = own_kept x rs (n + 1) (behind_nodes n (put node) b) in
    kept_then (kept_more (omega arith) first) (kept_more (omega arith) others)

module _ (x : ℤ) (A : Arranged) (i j k : ℕ) where
  -- a field of n nodes, behind others
  field_kept : (p : Offset) (at n : ℕ) (b : List ℕ) → at + n ≤ item_count x A i j k →
      Kept (item_count x A i j k) b (behind_nodes at (moved_front (x +ℤ p.across) p.up n) b)
  field_kept p at n b few =
      let dx = x +ℤ p.across in
      kept_more few (kept_behind at n (moved_front dx p.up n) b (kept_moved dx p.up n))

  pub item_kept : (b : List ℕ) → Kept (item_count x A i j k) b (item_buffer x A i j k b)
  item_kept b =
      let first : Kept (item_count x A i j k) b _ =
      kept_then (kept_more (omega arith) (own_kept x A.own.before 0 b)) (field_kept A.first (first_at x A i j k) i _ (omega arith)) in
      let owned : Kept (item_count x A i j k) b _ = kept_then first (kept_more (omega arith) (own_kept x A.own.behind (behind_at x A i j k) _)) in
      let second : Kept (item_count x A i j k) b _ = kept_then owned (field_kept A.second (second_at x A i j k) j _ (omega arith)) in
      kept_then second (field_kept A.third (third_at x A i j k) k _ (omega arith))

-- own nodes, and then others
own_nodes_append : (os ps : List OwnNode) → own_nodes (os ++ ps) ≡ own_nodes os ++ own_nodes ps
unfolding own_nodes
own_nodes_append [] ps = refl
own_nodes_append (o ∷ os) ps = ap (λ (l : List Node). own_node o ∷ l) (own_nodes_append os ps)

own_put_append : (x : ℤ) (n : ℕ) (os ps : List OwnNode) (b : List ℕ) → own_put x n (os ++ ps) b ≡ own_put x (n + length os) ps (own_put x n os b)
unfolding own_put
own_put_append x n [] ps b = let e : n ≡ n + 0 = omega arith in ap (λ (k : ℕ). own_put x k ps b) e
own_put_append x n (o ∷ os) ps b =
    let v = behind_nodes n (put (moved_node x (pos 0) (own_node o))) b in
    let e : n + 1 + length os ≡ n + length (o ∷ os) = omega arith in
    own_put_append x (n + 1) os ps v ∙ ap (λ (k : ℕ). own_put x k ps (own_put x (n + 1) os v)) e

-- how far they reach
hull_own_append : (x : ℤ) (os ps : List OwnNode) →
    hull (moved x (pos 0) (own_nodes (os ++ ps))) ≡ joined (hull (moved x (pos 0) (own_nodes os))) (hull (moved x (pos 0) (own_nodes ps)))
hull_own_append x os ps =
    ap (λ (l : List Node). hull (moved x (pos 0) l)) (own_nodes_append os ps)
    ∙ ap hull (moved_append x (pos 0) (own_nodes os) (own_nodes ps))
    ∙ hull_append (moved x (pos 0) (own_nodes os)) (moved x (pos 0) (own_nodes ps))

pub own_joined : {before r r' : Run} (os ps : List OwnNode) {x : ℤ} {b b₁ b₂ : List ℕ} → OwnPut before os x r b b₁ → OwnPut r ps x r' b₁ b₂ →
    OwnPut before (os ++ ps) x r' b b₂
own_joined {before} {r} {r'} os ps {x} {b} p q =
    record {
      count_is = omega (arith, p.count_is, q.count_is, length-append os ps);
      large_is = q.large_is ∙ p.large_is;
      hull_is =
          q.hull_is
          ∙ ap (λ (h : Hull). joined h (hull (moved x (pos 0) (own_nodes ps)))) p.hull_is
          ∙ join_assoc (hull_of before) (hull (moved x (pos 0) (own_nodes os))) (hull (moved x (pos 0) (own_nodes ps)))
          ∙ ap (joined (hull_of before)) (sym (hull_own_append x os ps));
      buffer_is =
          q.buffer_is ∙ ap₂ (λ (n : ℕ) (v : List ℕ). own_put x n ps v) p.count_is p.buffer_is ∙ sym (own_put_append x before.count os ps b);
    }

-- an item has two own nodes before its first field at most, and two behind it
pub one_sign : (s : Option glyphs.Glyph) → length (signing_as s) ≤ 1
one_sign None = omega arith
one_sign (Some g) = omega arith

one_rule : (r : Option rules.Rule) → length (ruling_as r) ≤ 1
one_rule None = omega arith
one_rule (Some r) = omega arith

pub few_owned : (o : Owned) → length (owned_as o) ≤ 2
few_owned o = omega (arith, length-append (signing_as o.sign) (ruling_as o.ruling), one_sign o.sign, one_rule o.ruling)

-- ---- how far the nodes of an item reach, whose x lies within m

module _ {m : ℕ} {x : ℤ} (near : Within m x) where
  -- nodes within the greatest length, moved
  moved_reach : (h : Hull) (p : CodeOffset) → HullWithin greatest_length h → OffsetWithin item_words p →
      HullWithin (m + words item_words + greatest_length) (moved_hull (x +ℤ p.across.0) p.up.0 h)
  moved_reach h p small place =
      let dx = x +ℤ p.across.0 in
      let right : Within (m + words item_words) dx = within_by (# x ⊕ # p.across.0) (m + words item_words) (omega arith) in
      let above : Within (m + words item_words) p.up.0 = omega arith in
      within_more (greatest_length + (m + words item_words)) (m + words item_words + greatest_length) (moved_hull dx p.up.0 h) (omega arith)
      (moved_within greatest_length (m + words item_words) dx p.up.0 h small right above)

  -- a node at an offset of the item
  point_reach : (p : CodeOffset) → OffsetWithin item_words p →
      let n = m + words item_words + greatest_length in
      let right = p.across.0 +ℤ x in
      let above = p.up.0 +ℤ pos 0 in
      Within n right × Within n right × Within n above × Within n above
  point_reach p small =
      let n = m + words item_words + greatest_length in
      let right = # p.across.0 ⊕ # x in
      let above = # p.up.0 ⊕ # (pos 0) in
      (within_by right n (omega arith), within_by right n (omega arith), within_by above n (omega arith), within_by above n (omega arith))

  sign_reach : (s : Option glyphs.Glyph) → SigningWithin item_words s →
      HullWithin (m + words item_words + greatest_length) (hull (moved x (pos 0) (own_nodes (signing_as s))))
  unfolding moved own_nodes hull joined
  sign_reach None small = tt
  sign_reach (Some g) small = point_reach g.place small

  rule_reach : (l : Option rules.Rule) → RulingWithin item_words l →
      HullWithin (m + words item_words + greatest_length) (hull (moved x (pos 0) (own_nodes (ruling_as l))))
  unfolding moved own_nodes hull joined
  rule_reach None small = tt
  rule_reach (Some r) small = point_reach r.corner small.corner

  own_reach : (o : Owned) → OwnedWithin item_words o →
      HullWithin (m + words item_words + greatest_length) (hull (moved x (pos 0) (own_nodes (owned_as o))))
  own_reach o small =
      let n = m + words item_words + greatest_length in
      let a = hull (moved x (pos 0) (own_nodes (signing_as o.sign))) in
      let b = hull (moved x (pos 0) (own_nodes (ruling_as o.ruling))) in
      rw (hull_own_append x (signing_as o.sign) (ruling_as o.ruling))
      (join_within n a b (sign_reach o.sign small.sign) (rule_reach o.ruling small.ruling))

  item_reach : (A : CodeArranged) (f g h : Hull) → Bounded A → HullWithin greatest_length f → HullWithin greatest_length g →
      HullWithin greatest_length h → HullWithin (m + words item_words + greatest_length) (item_hull x (arranged_as A) f g h)
  unfolding joined
  item_reach A f g h bounded one two three =
      let n = m + words item_words + greatest_length in
      let h₁ = hull (moved x (pos 0) (own_nodes (owned_as A.own.before))) in
      let h₂ = moved_hull (x +ℤ A.first.across.0) A.first.up.0 f in
      let h₃ = hull (moved x (pos 0) (own_nodes (owned_as A.own.behind))) in
      let h₄ = moved_hull (x +ℤ A.second.across.0) A.second.up.0 g in
      let h₅ = moved_hull (x +ℤ A.third.across.0) A.third.up.0 h in
      let w₂ : HullWithin n (joined h₁ h₂) =
      join_within n h₁ h₂ (own_reach A.own.before bounded.own.before) (moved_reach f A.first one bounded.first) in
      let w₃ : HullWithin n (joined (joined h₁ h₂) h₃) =
      join_within n (joined h₁ h₂) h₃ w₂ (own_reach A.own.behind bounded.own.behind) in
      let w₄ = join_within n (joined (joined h₁ h₂) h₃) h₄ w₃ (moved_reach g A.second two bounded.second) in
      join_within n (joined (joined (joined h₁ h₂) h₃) h₄) h₅ w₄ (moved_reach h A.third three bounded.third)

-- ---- the line with an item of so many bytes

greater : {k : ℕ} {a b : ℤ} → Within k a → Within k b → Within k (max_ℤ a b)
greater {k} {a} {b} v w = within_by (greatest (# a) (# b)) k (omega arith)

module _ (l r : lines.Line) (A : CodeArranged) (x space : ℤ) (count : ℕ) (f g h : Hull) where
  pub item_grows : x ≡ l.size.width.0 +ℤ space → Within (words 1) space → Bounded A → HullWithin greatest_length f →
      HullWithin greatest_length g → HullWithin greatest_length h → size_as r.size ≡ beside_size x (size_as l.size) (size_as A.size) →
      r.run.count ≡ l.run.count + count → hull_of r.run ≡ joined (hull_of l.run) (item_hull x (arranged_as A) f g h) →
      (k n : ℕ) → LineWithin k l → 5 ≤ n → count ≤ n → LineWithin (k + n) r
  item_grows at small bounded one two three sizes counts hulls k n line five few =
      let near : Within (stride k + words 1) x =
      rw at (let w = line.width in within_by (# l.size.width.0 ⊕ # space) (stride k + words 1) (omega arith)) in
      let width : r.size.width.0 ≡ x +ℤ A.size.width.0 = ap (λ (z : Size). z.width) sizes in
      let height : r.size.height.0 ≡ max_ℤ l.size.height.0 A.size.height.0 = ap (λ (z : Size). z.height) sizes in
      let depth : r.size.depth.0 ≡ max_ℤ l.size.depth.0 A.size.depth.0 = ap (λ (z : Size). z.depth) sizes in
      let own = bounded.width in
      let before = line.count in
      record {
        width = rw width (within_by (# x ⊕ # A.size.width.0) (stride (k + n)) (omega arith));
        height = rw height (greater line.height bounded.height);
        depth = rw depth (greater line.depth bounded.depth);
        count = omega arith;
        hull =
            rw hulls
            (join_within (stride (k + n)) (hull_of l.run) (item_hull x (arranged_as A) f g h)
            (within_more (stride k) (stride (k + n)) (hull_of l.run) (omega arith) line.hull)
            (within_more (stride k + words 1 + words item_words + greatest_length) (stride (k + n)) (item_hull x (arranged_as A) f g h) (omega arith)
            (item_reach near A f g h bounded one two three)));
      }
