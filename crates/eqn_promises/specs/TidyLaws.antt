-- The tree of a formula that reads is tidy: no fraction in it has a third field.
--     Tidy             a tidy list; `TidyItem`, `TidyField` a tidy item and field
--     formula_tidy     by induction over the bytes, field by field
-- Assumes nothing.
use Rattle.std.specs.Prelude.{◌≡◌, length}
use Rattle.std.proofs.Math.Path.{refl}
use Rattle.std.proofs.Common.{subst, arith, length-drop}
use mathlib.Core.List.{List}
use Prim.Native.Nat.{ℕ, zero, suc, ◌<◌}
use Rattle.std.proofs.Math.ListN.{drop}
use Rattle.formula.specs.declared.Kind.{Kind}
use Rattle.formula.specs.declared.Kind.TheVariants.{Scripted, Fraction}
use Rattle.formula.specs.declared.Opening.{Opening}
use Rattle.formula.specs.declared.Opening.TheVariants.{NoItem, Fields, Kern, Restyle, Choice}
use Rattle.formula.specs.declared.FieldHead.{FieldHead}
use Rattle.formula.specs.declared.FieldHead.TheVariants.{NoField, Empty, Symbol, Sublist, CutSublist}
use Rattle.formula.specs.Format.{long_format}
use Rattle.formula.specs.Tree.{Items, Item, Field, nil, cons, noad, kern, restyle, choice, empty, symbol, list, opening_bytes}
use Rattle.formula.specs.Heads.{opening_of, field_head}
use Rattle.formula.specs.Reading.{good, read_formula}
use Rattle.formula.specs.Places.{Readable, tree_of, contents, field_of, GoodField, has_third, head_at, second, third, item_size, field_in, third_in, item_of, GoodFieldAt, GoodThird, GoodItem}
use Rattle.formula.specs.HeadLaws.{contents_shorter}
use Rattle.formula.specs.ReadingLaws.{by_length}
use Rattle.formula.specs.PlacesLaws.{readable_of, tree_is, tree_none, step}
use Rattle.formula.specs.FormatLaws.{reads_so}

abbrev pub TidyThird : Kind → Field → Type 0
TidyThird (Scripted base) z = Unit {0}
TidyThird (Fraction bar) z = z ≡ empty

-- a choice has no text
unfoldable mutual
  pub Tidy : Items → Type 0
  Tidy nil = Unit {0}
  Tidy (cons i l) = TidyItem i × Tidy l

  pub TidyItem : Item → Type 0
  TidyItem (noad kind x y z) = TidyThird kind z × TidyField x × TidyField y × TidyField z
  TidyItem (kern n) = Unit {0}
  TidyItem (restyle n) = Unit {0}
  TidyItem (choice d t sc ss) = Unit {0}

  pub TidyField : Field → Type 0
  TidyField empty = Unit {0}
  TidyField (symbol family code) = Unit {0}
  TidyField (list l) = Tidy l

-- ---- what reads is tidy

ReadsTidy : List ℕ → Type 0
ReadsTidy s = Readable s → Tidy (tree_of s)

module _ (s : List ℕ) (ih : (r : List ℕ) → length r < length s → ReadsTidy r) where
  field_tidy : (at : ℕ) → GoodFieldAt s at → TidyField (field_in s at)
  unfolding TidyField ReadsTidy
  field_tidy at = go (head_at s at) refl
    where
      r : List ℕ
      r = drop at s

      go : (h : FieldHead) → field_head r ≡ h → GoodField r h → TidyField (field_of r h)
      go NoField e g = absurd g
      go Empty e g = tt
      go (Symbol family code) e g = tt
      go (Sublist opening n) e g =
          let k = contents_shorter r opening n e in
          ih (contents opening n r) (omega (arith, length-drop at s)) g
      go CutSublist e g = absurd g

  third_tidy : (kind : Kind) (at : ℕ) → GoodThird s (has_third kind) at →
      TidyThird kind (third_in s (has_third kind) at) × TidyField (third_in s (has_third kind) at)
  unfolding TidyField
  third_tidy (Scripted base) at g = (tt, field_tidy at g)
  third_tidy (Fraction bar) at g = (refl, tt)

  item_tidy : (o : Opening) → GoodItem s o → TidyItem (item_of s o)
  unfolding TidyItem
  item_tidy NoItem g = absurd g
  item_tidy (Fields kind) g =
      let z = third_tidy kind (third s kind) g.2 in
      (z.0, field_tidy (opening_bytes kind) g.0, field_tidy (second s kind) g.1, z.1)
  item_tidy (Kern n) g = tt
  item_tidy (Restyle n) g = tt
  item_tidy Choice g = tt

tidy_step : (s : List ℕ) → ((r : List ℕ) → length r < length s → ReadsTidy r) → ReadsTidy s
unfolding ReadsTidy Tidy
tidy_step s ih r = go (length s) refl
  where
    go : (n : ℕ) → length s ≡ n → Tidy (tree_of s)
    go zero z = rw (tree_none s z).1 tt
    go (suc n) z =
        let o = opening_of s in
        let p = step s o refl r (omega arith) in
        let size = item_size s o in
        rw p.tree (item_tidy s ih o p.item, ih (drop size s) (omega (arith, length-drop size s, p.some, p.fits)) p.rest)

pub formula_tidy : (s : List ℕ) (l : Items) → read_formula s ≡ good l → Tidy l
unfolding ReadsTidy
formula_tidy s l e =
    let reads = (reads_so long_format s l e).1 in
    subst Tidy (tree_is s _ l reads) (by_length ReadsTidy tidy_step s (readable_of s _ l reads))
