-- The node bytes that a setter writes of nodes that can be drawn are a page's body.
--     set_written            a negative width is stored as 0 (`stored_node`)
-- Assumes nothing.
use Rattle.std.specs.Prelude.{◌≡◌, refl, true, List, [], ◌∷◌, map, ℤ, pos}
use Rattle.std.proofs.Common.{arith}
use Rattle.laws.specs.Truths.{both_true, true_both}
use Rattle.scaled.specs.Length.{max_ℤ}
use Rattle.scaled.specs.Signed.{own, parts_max}
use Rattle.scaled.specs.Linear.{#, greatest}
use Rattle.scaled.proofs.Linear.{eq_by}
use Rattle.nodes.specs.Nodes.{Node, glyph, rule, node_bytes, bytes_of}
use Rattle.nodes.specs.Bounds.{within, node_fits, nodes_fit}
use Rattle.nodes.specs.HullLaws.{within_true}
use Rattle.dvi.specs.declared.forms.Form.TheVariants.{Stored}
use Rattle.dvi.specs.Body.{body_of}
use Rattle.dvi.specs.Profile.{writable, all_writable}
use Rattle.dvi.specs.ProfileLaws.{Extent, of_glyph, of_rule}
use Rattle.dvi.proofs.ProfileLaws.{writable_by}
use Rattle.results.specs.Results.{made}
use Rattle.dvi.specs.Answers.{result_of}
use Rattle.dvi.proofs.RoundTrip.{made_by}
use Rattle.dvi.specs.SetNodes.{Drawable, AllDrawable, stored_node}

max_again : (z : ℤ) → max_ℤ (pos 0) (max_ℤ (pos 0) z) ≡ max_ℤ (pos 0) z
max_again z = eq_by (greatest (# (pos 0)) (greatest (# (pos 0)) (# z))) (greatest (# (pos 0)) (# z)) (omega arith)

stored_bytes : (n : Node) → node_bytes (stored_node n) ≡ node_bytes n
unfolding node_bytes
stored_bytes (glyph x y size family code) = refl
stored_bytes (rule x y width thickness) = rw (max_again width)

all_stored : (ns : List Node) → bytes_of (map stored_node ns) ≡ bytes_of ns
unfolding bytes_of
all_stored [] = refl
all_stored (n ∷ ns) = rw (stored_bytes n, all_stored ns)

stored_writable : (n : Node) → node_fits n ≡ true → Drawable n → writable (stored_node n) ≡ true
stored_writable (glyph x y size family code) t d =
    let place = both_true {p = within x} t in
    writable_by (of_glyph (within_true x place.0) (within_true y place.1) d.0 d.1 d.2)
stored_writable (rule x y width thickness) t d =
    let place = both_true {p = within x} t in
    let wide : Extent (max_ℤ (pos 0) width) = record { short = omega (arith, parts_max (own (pos 0)) (own width)); up = omega (arith, parts_max (own (pos 0)) (own width)) } in
    writable_by (of_rule (within_true x place.0) (within_true y place.1) wide d.1)

all_writable_lem : (ns : List Node) → nodes_fit ns ≡ true → AllDrawable ns → all_writable (map stored_node ns) ≡ true
unfolding nodes_fit all_writable
all_writable_lem [] t d = refl
all_writable_lem (n ∷ ns) t d =
    let fits = both_true {p = node_fits n} t in
    true_both (stored_writable n fits.0 d.0) (all_writable_lem ns fits.1 d.1)

pub set_written : (ns : List Node) → nodes_fit ns ≡ true → AllDrawable ns → result_of Stored (bytes_of ns) ≡ made (body_of (map stored_node ns))
set_written ns t d = rw (all_stored ns) at (made_by Stored (map stored_node ns) (all_writable_lem ns t d))
