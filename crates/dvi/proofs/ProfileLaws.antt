-- What the test of a node says.
--     facts, writable_by         the test of a node as facts that `omega` reads, and back
-- Assumes nothing.
use Rattle.std.specs.Prelude.{◌≡◌, true, ◌&&◌, leb, ℤ, pos, negsuc}
use Rattle.std.proofs.lemmas.Bool.{false≢true}
use Rattle.std.proofs.Common.{arith, leb-true, le-leb}
use Rattle.std.proofs.Math.Dec.{leb-zero}
use Rattle.std.specs.Int.Signed.{le_z}
use Rattle.laws.specs.Truths.{both_true, true_both}
use Rattle.nodes.specs.Nodes.{Node, glyph, rule}
use Rattle.nodes.specs.Bounds.{within}
use Rattle.nodes.specs.HullLaws.{within_true, true_within}
use Rattle.dvi.specs.Profile.{greatest_size, greatest_family, is_extent, writable}
use Rattle.dvi.specs.ProfileLaws.{Extent, Facts, of_glyph, of_rule}

extent : (z : ℤ) → is_extent z ≡ true → Extent z
extent (pos n) t =
    record { short = within_true (pos n) (both_true {p = le_z (pos 0) (pos n)} t).1; up = omega arith }
extent (negsuc n) t = absurd (false≢true t)

extent_true : (z : ℤ) → Extent z → is_extent z ≡ true
extent_true (pos n) e = true_both (leb-zero n) (true_within (pos n) e.short)
extent_true (negsuc n) e = absurd (omega arith)

pub facts : (n : Node) → writable n ≡ true → Facts n
unfolding writable
facts (glyph x y size family code) t =
    let parts = both_true {p = within x && within y} t in
    let place = both_true {p = within x} parts.0 in
    let form = both_true {p = leb size greatest_size && leb family greatest_family} parts.1 in
    let font = both_true {p = leb size greatest_size} form.0 in
    of_glyph (within_true x place.0) (within_true y place.1) (leb-true _ _ font.0) (leb-true _ _ font.1) (leb-true _ _ form.1)
facts (rule x y width thickness) t =
    let parts = both_true {p = within x && within y} t in
    let place = both_true {p = within x} parts.0 in
    let form = both_true {p = is_extent width} parts.1 in
    of_rule (within_true x place.0) (within_true y place.1) (extent width form.0) (extent thickness form.1)

pub writable_by : {n : Node} → Facts n → writable n ≡ true
unfolding writable
writable_by (of_glyph {x} {y} in-x in-y s f c) =
    true_both (true_both (true_within x in-x) (true_within y in-y)) (true_both (true_both (le-leb _ _ s) (le-leb _ _ f)) (le-leb _ _ c))
writable_by (of_rule {x} {y} {width} {thickness} in-x in-y w t) =
    true_both (true_both (true_within x in-x) (true_within y in-y)) (true_both (extent_true width w) (extent_true thickness t))
