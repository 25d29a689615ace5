-- Laws of the formats, of which `short_format` and `long_format` are two.
--     reads_so, so_reads     a formula reads exactly if it is short enough, and its list reads with the levels below the first
--     formula_on             a formula that reads in a format with smaller numbers reads to the same tree in the one in use;
--                            short_on    so does one that reads in the short format
--     FieldMet, Meets        the reading of a list comes, with no fault before it, to a field of kind 3 of the item at a place
--     kind_refused           where a format does not have that kind, such a list is unreadable at that item, and so is a formula (`meeting_refused`)
-- Assumes nothing.
use Rattle.std.proofs.Math.Path.{◌≡◌, refl}
use Rattle.std.proofs.Common.{◌∙◌, arith, length-drop, ltb-false, le-ltb}
use Rattle.std.specs.Prelude.{Bool, List, ◌∷◌, ℕ, suc, ◌+◌, ◌-◌, ◌≤◌, ◌<◌, length, drop}
use Rattle.std.proofs.Math.Bool.{true, false}
use Rattle.std.proofs.Math.Dec.{ltb}
use Rattle.formula.specs.declared.Base.{Base}
use Rattle.formula.specs.declared.Kind.{Kind}
use Rattle.formula.specs.declared.Kind.TheVariants.{Scripted}
use Rattle.formula.specs.declared.Opening.TheVariants.{Fields, Choice}
use Rattle.formula.specs.declared.FieldHead.TheVariants.{Sublist}
use Rattle.formula.specs.declared.Fault.{Fault}
use Rattle.formula.specs.declared.Fault.TheVariants.{Unreadable}
use Rattle.formula.specs.Format.{Format, short_format, long_format, formula_limit, depth_limit}
use Rattle.formula.specs.Tree.{Items, Item, Field, opening_bytes, choice_opening_bytes}
use Rattle.formula.specs.Heads.{opening_of, field_head_under}
use Rattle.formula.specs.Reading.{good, fault, got, stopped, unreadable, list_got, field_by, field_at, first_at, third_at, noad_at, list_at, choice_at, opened_by, item_by, before, rest_by, read_under, read_formula_under, read_formula}
use Rattle.formula.specs.Places.{contents, opened_bytes}
use Rattle.formula.specs.HeadLaws.{opening_fits}
use Rattle.formula.specs.ReadingLaws.{read_some, read_on, agree}
use Rattle.formula.specs.PlacesLaws.{opening_long}

-- ---- a formula and its list

module _ (f : Format) (s : List ℕ) (l : Items) where
  pub reads_so : read_formula_under f s ≡ good l → (length s ≤ f.longest) × (read_under f (f.deepest - 1) s ≡ good l)
  unfolding read_formula_under
  reads_so e = go (ltb f.longest (length s)) refl e
    where
      go : (t : Bool) → ltb f.longest (length s) ≡ t →
          elim t [ true ↦ fault Unreadable 0 | false ↦ read_under f (f.deepest - 1) s ] ≡ good l →
          (length s ≤ f.longest) × (read_under f (f.deepest - 1) s ≡ good l)
      go true q e = let z : ◌≡◌ {A = ℕ} 0 1 = cc in absurd (omega arith)
      go false q e = (ltb-false f.longest (length s) q, e)

formula_is : (f : Format) (s : List ℕ) → length s ≤ f.longest → read_formula_under f s ≡ read_under f (f.deepest - 1) s
unfolding read_formula_under
formula_is f s h = rw (le-ltb f.longest (length s) h, read_formula_under) refl

pub so_reads : (f : Format) (s : List ℕ) (l : Items) → length s ≤ f.longest → read_under f (f.deepest - 1) s ≡ good l →
    read_formula_under f s ≡ good l
so_reads f s l h e = formula_is f s h ∙ e

-- ---- a format with smaller numbers

pub formula_on : (f : Format) → f.longest ≤ formula_limit → f.deepest ≤ depth_limit → (s : List ℕ) (l : Items) →
    read_formula_under f s ≡ good l → read_formula s ≡ good l
formula_on f longer deeper s l e =
    let r = reads_so f s l e in
    so_reads long_format s l (omega (arith, r.0))
    (agree s (f.deepest - 1) (depth_limit - 1) l (read_on f (f.deepest - 1) s l r.1) (omega arith))

pub short_on : (s : List ℕ) (l : Items) → read_formula_under short_format s ≡ good l → read_formula s ≡ good l
short_on = formula_on short_format (omega arith) (omega arith)

-- ---- a kind that a format does not have

-- the item that s begins with has a field at this place, and its fields before that read
pub data FieldMet (f : Format) (levels : ℕ) (s : List ℕ) : ℕ → Type 0 where
  one : (kind : Kind) → opening_of s ≡ Fields kind → FieldMet f levels s (opening_bytes kind)
  two : {at : ℕ} (kind : Kind) (x : Field) → opening_of s ≡ Fields kind → first_at f (read_under f) levels s kind ≡ got x at →
      FieldMet f levels s at
  three : {at₂ at : ℕ} (base : Base) (x y : Field) → opening_of s ≡ Fields (Scripted base) →
      first_at f (read_under f) levels s (Scripted base) ≡ got x at₂ → field_at f (read_under f) levels s at₂ ≡ got y at →
      FieldMet f levels s at
  for_d : opening_of s ≡ Choice → FieldMet f levels s choice_opening_bytes
  for_t : {at : ℕ} (d : Items) → opening_of s ≡ Choice → list_at f (read_under f) levels s choice_opening_bytes ≡ got d at →
      FieldMet f levels s at
  for_s : {at₂ at : ℕ} (d t : Items) → opening_of s ≡ Choice → list_at f (read_under f) levels s choice_opening_bytes ≡ got d at₂ →
      list_at f (read_under f) levels s at₂ ≡ got t at → FieldMet f levels s at
  for_ss : {at₂ at₃ at : ℕ} (d t sc : Items) → opening_of s ≡ Choice → list_at f (read_under f) levels s choice_opening_bytes ≡ got d at₂ →
      list_at f (read_under f) levels s at₂ ≡ got t at₃ → list_at f (read_under f) levels s at₃ ≡ got sc at → FieldMet f levels s at

-- reading the list s comes to a field of kind 3; its item's first byte is at this place
pub data Meets (f : Format) : ℕ → List ℕ → ℕ → Type 0 where
  here : {levels at : ℕ} {s r : List ℕ} → FieldMet f levels s at → drop at s ≡ 3 ∷ r → Meets f levels s 0
  inside : {levels at opening n place : ℕ} {s : List ℕ} → FieldMet f (suc levels) s at →
      field_head_under f (drop at s) ≡ Sublist opening n → Meets f levels (contents opening n (drop at s)) place →
      Meets f (suc levels) s (at + opening + place)
  behind : {levels size place : ℕ} {s : List ℕ} (i : Item) → item_by f (read_under f) levels s ≡ got i size →
      Meets f levels (drop size s) place → Meets f levels s (size + place)

-- an item has bytes
met_some : {f : Format} {levels at : ℕ} {s : List ℕ} → FieldMet f levels s at → 0 < length s
met_some {s = s} m = omega (arith, opening_fits s (opening_of s) refl, opened m)
  where
    fields : (kind : Kind) → opening_of s ≡ Fields kind → 0 < opened_bytes (opening_of s)
    fields kind e = rw e (omega (arith, opening_long kind))

    choice : opening_of s ≡ Choice → 0 < opened_bytes (opening_of s)
    choice e = rw e (omega arith)

    opened : {f : Format} {levels at : ℕ} → FieldMet f levels s at → 0 < opened_bytes (opening_of s)
    opened (one kind e) = fields kind e
    opened (two kind x e a) = fields kind e
    opened (three base x y e a b) = fields (Scripted base) e
    opened (for_d e) = choice e
    opened (for_t d e a) = choice e
    opened (for_s d t e a b) = choice e
    opened (for_ss d t sc e a b c) = choice e

meets_some : {f : Format} {levels place : ℕ} {s : List ℕ} → Meets f levels s place → 0 < length s
meets_some (here m e) = met_some m
meets_some (inside m e inner) = met_some m
meets_some (behind {size = size} {s = s} i e rest) = omega (arith, meets_some rest, length-drop size s)

-- a fault of the field is its item's
met_stops : {f : Format} {levels at : ℕ} {s : List ℕ} (why : Fault) (place : ℕ) → FieldMet f levels s at →
    field_at f (read_under f) levels s at ≡ stopped why place → item_by f (read_under f) levels s ≡ stopped why place
unfolding item_by opened_by noad_at first_at third_at choice_at list_at
met_stops why place (one kind e) q = rw (e, q)
met_stops why place (two kind x e a) q = rw (e, a, q)
met_stops why place (three base x y e a b) q = rw (e, a, b, q)
met_stops why place (for_d e) q = rw (e, q)
met_stops why place (for_t d e a) q = rw (e, a, q)
met_stops why place (for_s d t e a b) q = rw (e, a, b, q)
met_stops why place (for_ss d t sc e a b c) q = rw (e, a, b, c, q)

module _ (f : Format) (unknown : f.long_lists ≡ false) where
  -- whatever the depth, and whatever stands behind the kind byte
  kind_unknown : (levels at : ℕ) (s r : List ℕ) → drop at s ≡ 3 ∷ r → field_at f (read_under f) levels s at ≡ unreadable
  unfolding field_at field_by field_head_under
  kind_unknown levels at s r e = rw (e, unknown)

  pub kind_refused : {levels place : ℕ} {s : List ℕ} → Meets f levels s place → read_under f levels s ≡ fault Unreadable place
  unfolding rest_by before field_at field_by list_got
  kind_refused (here {levels} {at} {s} {r} m e) =
      read_some f levels s (met_some m) ∙ rw (met_stops Unreadable 0 m (kind_unknown levels at s r e))
  kind_refused (inside {levels} {at} {opening} {n} {place} {s} m e inner) =
      read_some f (suc levels) s (met_some m)
      ∙ rw (met_stops Unreadable (at + opening + place) m (rw (e, kind_refused inner)))
  kind_refused (behind {levels} {size} {place} {s} i e rest) =
      read_some f levels s (meets_some (behind i e rest)) ∙ rw (e, kind_refused rest)

  pub meeting_refused : (s : List ℕ) (place : ℕ) → length s ≤ f.longest → Meets f (f.deepest - 1) s place →
      read_formula_under f s ≡ fault Unreadable place
  meeting_refused s place h m = formula_is f s h ∙ kind_refused m
