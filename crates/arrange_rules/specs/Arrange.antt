-- An item, from the shapes of its fields: its size, where its fields stand, and its own nodes. Nothing but the shapes is
-- seen of a field, so that two lists of one size give one arrangement. The signs are those that were found for a root and for a fence.
-- Assumes nothing.
use Rattle.std.specs.Prelude.{Bool, true, false, ℕ, pos}
use Rattle.std.proofs.Math.Option.{Option, none, some}
use Rattle.formula.specs.declared.Base.{Base}
use Rattle.formula.specs.declared.Base.TheVariants.{Atom, Over, Under, Root, Fence}
use Rattle.formula.specs.declared.Kind.{Kind}
use Rattle.formula.specs.declared.Kind.TheVariants.{Scripted, Fraction}
use Rattle.formula.specs.Heads.{is_op}
use Rattle.boxes.specs.declared.styles.Style.{Style}
use Rattle.boxes.specs.Styles.{font_size}
use Rattle.boxes.specs.Parameters.{Parameters, axis_height, rule_thickness}
use Rattle.boxes.specs.Boxes.{Size, Shape, Arranged, size_of, given, signed_before, signed_around}
use Rattle.delimiters.specs.declared.HasSigns.{HasSigns}
use Rattle.delimiters.specs.Delimiters.{Signs, sign_size, sign_nodes}
use Rattle.roots.specs.Roots.{Radical, root}
use Rattle.fences.specs.Fences.{Fence as FenceParts, fence_of}
use Rattle.nucleus.specs.Nucleus.{Nucleus, atom_nucleus, overline, underline}
use Rattle.limits.specs.Limits.{has_limits, limited}
use Rattle.scripts.specs.Scripts.{scripted}
use Rattle.fractions.specs.Fractions.{bar_thickness, has_bar, fraction}

abbrev pub is_given : Option Size → Bool
is_given none = false
is_given (some z) = true

-- whether the scripts are set as limits
abbrev pub sets_limits : Style → Base → Bool
sets_limits s (Atom class limits) = has_limits s.level class limits
sets_limits s Over = false
sets_limits s Under = false
sets_limits s (Root d) = false
sets_limits s (Fence left right) = false

-- rule 11: a root's sign, if there is one, and its rule stand before its field
abbrev pub root_nucleus : Radical → Signs → Nucleus
root_nucleus r signs =
    record {
      size = r.size;
      first = r.nucleus;
      δ = pos 0;
      is_plain = false;  -- a root counts as a box
      own = signed_before (sign_nodes r.sign signs.before) r.rule;
    }

-- rule 19: a fence's delimiters, if there are any, stand on either side of its list
abbrev pub fence_nucleus : FenceParts → Signs → Nucleus
fence_nucleus f signs =
    record {
      size = f.size;
      first = f.inside;
      δ = pos 0;
      is_plain = false;  -- and so does a fence
      own = signed_around (sign_nodes f.left signs.before) (sign_nodes f.right signs.behind);
    }

-- what the scripts are set to; the test is whether there is a subscript
unfoldable pub nucleus_of : Parameters → Style → Base → Signs → Bool → Shape → Nucleus
nucleus_of p s (Atom class limits) signs subscript x =
    atom_nucleus (axis_height p (font_size s)) (is_op class) (has_limits s.level class limits) subscript x
nucleus_of p s Over signs subscript x = overline (rule_thickness p (font_size s)) (size_of x)
nucleus_of p s Under signs subscript x = underline (rule_thickness p (font_size s)) (size_of x)
nucleus_of p s (Root d) signs subscript x = root_nucleus (root p s (size_of x) (sign_size signs.before)) signs
nucleus_of p s (Fence left right) signs subscript x =
    fence_nucleus (fence_of p s (sign_size signs.before) (size_of x) (sign_size signs.behind)) signs

-- the scripts set to a nucleus, as limits or beside it
abbrev pub set_scripts : Parameters → Style → Bool → Nucleus → Option Size → Option Size → Arranged
set_scripts p s true n superscript subscript = limited p (font_size s) n superscript subscript
set_scripts p s false n superscript subscript = scripted p s n superscript subscript

unfoldable pub arrange : Parameters → Style → Kind → Signs → Shape → Shape → Shape → Arranged
arrange p s (Scripted base) signs x y z =
    set_scripts p s (sets_limits s base) (nucleus_of p s base signs (is_given (given z)) x) (given y) (given z)
arrange p s (Fraction bar) signs x y z = fraction p s bar (size_of x) (size_of y)

-- ---- how many own nodes an item has, which its fields do not change; the tests are on which side a sign was found for it

pub record OwnCounts : Type 0 where
  pub before : ℕ
  pub behind : ℕ

abbrev pub counts_behind : ℕ → OwnCounts
counts_behind n = record { before = 0; behind = n }

abbrev pub counts_before : ℕ → OwnCounts
counts_before n = record { before = n; behind = 0 }

-- a sign where one was found, and a rule always
abbrev pub root_counts : Bool → OwnCounts
root_counts true = counts_before 2
root_counts false = counts_before 1

abbrev pub sign_count : Bool → ℕ
sign_count true = 1
sign_count false = 0

-- a line always
abbrev pub base_counts : Base → HasSigns → OwnCounts
base_counts (Atom class limits) found = counts_behind 0
base_counts Over found = counts_behind 1
base_counts Under found = counts_behind 1
base_counts (Root d) found = root_counts found.before
base_counts (Fence left right) found = record { before = sign_count found.before; behind = sign_count found.behind }

-- a bar where it has a thickness
abbrev pub bar_counts : Bool → OwnCounts
bar_counts true = counts_behind 1
bar_counts false = counts_behind 0

unfoldable pub own_counts : Parameters → Style → Kind → HasSigns → OwnCounts
own_counts p s (Scripted base) found = base_counts base found
own_counts p s (Fraction bar) found = bar_counts (has_bar (bar_thickness p (font_size s) bar))
