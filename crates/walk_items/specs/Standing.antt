-- What stands in the buffer while the fields of an item are set, one behind another.
--     Laid         parts that are set one behind another, each into the rest of a buffer
--     One, Two     the first field, and the second, with room for the item's own nodes
-- Assumes nothing.
use Rattle.std.specs.Prelude.{◌≡◌, Bool, true, ◌&&◌, List, ◌++◌, ℕ, ◌+◌, ◌*◌, ◌≤◌, length, take, drop}
use Rattle.font.specs.Font.{Font}
use Rattle.formula.specs.declared.Kind.{Kind}
use Rattle.formula.specs.Tree.{opening_bytes}
use Rattle.formula.specs.Places.{second, third, field_in}
use Rattle.formula.specs.PlacesLaws.{Noad}
use Rattle.boxes.specs.declared.styles.Style.{Style}
use Rattle.arrange.specs.declared.Manner.TheVariants.{Plain}
use Rattle.arrange.specs.Arrange.{own_counts, first_style, second_style, first_manner}
use Rattle.nodes.specs.Nodes.{bytes_in_node, bytes_of}
use Rattle.nodes.specs.Kept.{Kept}
use Rattle.setting.specs.Setting.{FieldBox, has_signs, set_field}
use Rattle.setting.specs.Fitting.{field_fits}
use Rattle.walk_fields.specs.declared.fields.FieldBox as fields
use Rattle.walk_fields.specs.Fields.{FieldWhole}

-- what was b₀ is b, and n nodes' bytes w stand at its front, if what was set is known and there is room. Whatever was set, all but
-- m nodes of it is kept, and n is not more
pub record Laid (b₀ : List ℕ) (m n : ℕ) (known : Bool) (w b : List ℕ) : Type 0 where
  pub few : n ≤ m
  pub kept : Kept m b₀ b
  pub laid : known ≡ true → bytes_in_node * n ≤ length b₀ → (length w ≡ bytes_in_node * n) × (b ≡ w ++ drop (bytes_in_node * n) b₀)

-- the room for an item's own nodes, before its first field a and behind it
module _ (a : fields.FieldBox) (o₁ o₂ : ℕ) (b₀ : List ℕ) where
  abbrev pub gap₁ : List ℕ
  gap₁ = take (bytes_in_node * o₁) b₀

  abbrev pub gap₂ : List ℕ
  gap₂ = take (bytes_in_node * o₂) (drop (bytes_in_node * (o₁ + a.run.count)) b₀)

-- of the item at the head of some bytes, in the buffer v, which was b₀
module _ (F : Font) (s : Style) (kind : Kind) (bytes : List ℕ) where
  abbrev first_box : FieldBox
  first_box = set_field F (first_style kind s) (first_manner kind s) (field_in bytes (opening_bytes kind))

  abbrev second_box : FieldBox
  second_box = set_field F (second_style kind s) Plain (field_in bytes (second bytes kind))

  abbrev first_fits : Bool
  first_fits = field_fits F (first_style kind s) (first_manner kind s) (field_in bytes (opening_bytes kind))

  abbrev second_fits : Bool
  second_fits = field_fits F (second_style kind s) Plain (field_in bytes (second bytes kind))

  -- the first field a
  pub record One (o₁ o₂ : ℕ) (b₀ : List ℕ) (a : fields.FieldBox) (v : List ℕ) : Type 0 where
    pub noad : Noad bytes kind
    pub own₁ : o₁ ≡ (own_counts F.parameter s kind (has_signs F s kind)).before
    pub own₂ : o₂ ≡ (own_counts F.parameter s kind (has_signs F s kind)).behind
    pub first_whole : FieldWhole F (first_style kind s) (first_manner kind s) (field_in bytes (opening_bytes kind)) (opening_bytes kind) (second bytes kind) a
    pub so : Laid b₀ (second bytes kind) (o₁ + a.run.count + o₂) first_fits
        ((gap₁ a o₁ o₂ b₀ ++ bytes_of first_box.nodes) ++ gap₂ a o₁ o₂ b₀) v

  -- and the second, b
  pub record Two (o₁ o₂ : ℕ) (b₀ : List ℕ) (a b : fields.FieldBox) (v : List ℕ) : Type 0 where
    pub noad : Noad bytes kind
    pub own₁ : o₁ ≡ (own_counts F.parameter s kind (has_signs F s kind)).before
    pub own₂ : o₂ ≡ (own_counts F.parameter s kind (has_signs F s kind)).behind
    pub first_whole : FieldWhole F (first_style kind s) (first_manner kind s) (field_in bytes (opening_bytes kind)) (opening_bytes kind) (second bytes kind) a
    pub second_whole : FieldWhole F (second_style kind s) Plain (field_in bytes (second bytes kind)) (second bytes kind) (third bytes kind) b
    pub so : Laid b₀ (third bytes kind) (o₁ + a.run.count + o₂ + b.run.count) (first_fits && second_fits)
        (((gap₁ a o₁ o₂ b₀ ++ bytes_of first_box.nodes) ++ gap₂ a o₁ o₂ b₀) ++ bytes_of second_box.nodes) v
