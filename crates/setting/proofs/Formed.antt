-- A tree as the reading gives it: no fraction in it has a third field.
--     Formed         of a list, and of the lists in it, taken or not
--     read_formed    whatever is read is formed
--     formed_at      and so is an item at a site of a formed list
-- Assumes nothing.
use Rattle.std.specs.Prelude.{◌≡◌, refl, Bool, true, false, List, ℕ, ◌-◌, ltb, length}
use Rattle.std.proofs.Common.{subst}
use Rattle.formula.specs.declared.Fault.TheVariants.{Unreadable}
use Rattle.formula.specs.declared.Kind.{Kind}
use Rattle.formula.specs.declared.Kind.TheVariants.{Scripted, Fraction}
use Rattle.formula.specs.Tree.{Items, Item, Field, nil, cons, noad, kern, restyle, choice, empty, symbol, list}
use Rattle.formula.specs.Format.{formula_limit, depth_limit}
use Rattle.formula.specs.Reading.{Read, good, fault, read, read_formula_under, read_formula}
use Rattle.formula.specs.ReadIn.{ReadClaims, Closed, ReadIn, read_in}
use Rattle.boxes.specs.declared.styles.Level.{Level}
use Rattle.boxes.specs.declared.styles.Level.TheVariants.{Display, Text, Script, Scriptscript}
use Rattle.boxes.specs.declared.styles.Style.{Style}
use Rattle.setting.specs.Setting.{style_after}
use Rattle.setting.specs.Paths.{Arm, in_first, in_second, in_third, holding, join, choice_with, Spot, among, within, put, holder, list_with, Path, whole, into, style_at, fill}
use Rattle.setting.specs.ItemOnPage.{Site, with_item}

abbrev pub ThirdFormed : Kind → Field → Type 0
ThirdFormed (Scripted base) f = Unit {0}
ThirdFormed (Fraction bar) f = f ≡ empty

unfoldable mutual
  pub Formed : Items → Type 0
  Formed nil = Unit {0}
  Formed (cons i r) = FormedItem i × Formed r

  pub FormedItem : Item → Type 0
  FormedItem (noad kind x y z) = FormedField x × FormedField y × FormedField z × ThirdFormed kind z
  FormedItem (kern n) = Unit {0}
  FormedItem (restyle number) = Unit {0}
  FormedItem (choice d t sc ss) = Formed d × Formed t × Formed sc × Formed ss

  pub FormedField : Field → Type 0
  FormedField empty = Unit {0}
  FormedField (symbol family code) = Unit {0}
  FormedField (list l) = Formed l

-- ---- whatever is read

abbrev formed_parts : ReadClaims
formed_parts =
    record {
      OfItems = λ n l. Formed l;
      OfItem = λ n i. FormedItem i;
      OfField = λ at end f. FormedField f;
      OfThird = λ kind at end f. FormedField f × ThirdFormed kind f;
    }

formed_so : Closed formed_parts
unfolding Formed FormedItem FormedField
formed_so =
    record {
      empty_is = λ at. tt;
      symbol_is = λ at family code. tt;
      list_is = λ at n l h. h;
      third_is = λ base at end f h. (h, tt);
      no_third = λ bar at. (tt, refl);
      noad_is = λ kind x y z m₁ m₂ m₃ a b c. (a, b, c.0, c.1);
      kern_is = λ n. tt;
      restyle_is = λ n. tt;
      choice_is = λ d t sc ss m₁ m₂ m₃ m₄ a b c e. (a, b, c, e);
      nil_is = tt;
      cons_is = λ size n i l a b. (a, b);
    }

abbrev IfFormed : Read → Type 0
IfFormed (good l) = Formed l
IfFormed (fault why place) = Unit {0}

if_formed : (n : ℕ) (r : Read) → ReadIn formed_parts n r → IfFormed r
if_formed n (good l) h = h
if_formed n (fault why place) h = tt

formula_formed : (formula : List ℕ) → IfFormed (read_formula formula)
unfolding read_formula_under
formula_formed formula = go (ltb formula_limit (length formula))
  where
    go : (t : Bool) → IfFormed (elim t [ true ↦ fault Unreadable 0 | false ↦ read (depth_limit - 1) formula ])
    go true = tt
    go false = if_formed (length formula) (read (depth_limit - 1) formula) (read_in formed_parts formed_so (depth_limit - 1) formula)

pub read_formed : (formula : List ℕ) (l : Items) → read_formula formula ≡ good l → Formed l
read_formed formula l e = subst IfFormed e (formula_formed formula)

-- ---- an item at a site

formed_join : (b : Items) (i : Item) (r : Items) → Formed (join b (cons i r)) → FormedItem i
unfolding Formed
formed_join nil i r h = h.0
formed_join (cons j b) i r h = formed_join b i r h.1

formed_choice : (level : Level) (l a b c : Items) → FormedItem (choice_with level l a b c) → Formed l
unfolding FormedItem
formed_choice Display l a b c h = h.0
formed_choice Text l a b c h = h.1
formed_choice Script l a b c h = h.2
formed_choice Scriptscript l a b c h = h.3

formed_put : (s : Style) (spot : Spot) (i : Item) → Formed (put s spot i) → FormedItem i
formed_put s (among before after) i h = formed_join before i after h
formed_put s (within before a b c spot after) i h =
    let t = style_after s before in
    formed_put t spot i (formed_choice t.level (put t spot i) a b c (formed_join before (choice_with t.level (put t spot i) a b c) after h))

formed_arm : (kind : Kind) (arm : Arm) (l : Items) → FormedItem (holding kind arm l) → Formed l
unfolding FormedItem FormedField
formed_arm kind (in_first y z) l h = h.0
formed_arm kind (in_second x z) l h = h.1
formed_arm kind (in_third x y) l h = h.2

formed_fill : (s : Style) (p : Path) (l : Items) → Formed (fill s p l) → Formed l
formed_fill s whole l h = h
formed_fill s (into p t) l h =
    formed_arm t.kind t.arm l (formed_put (style_at s p) t.spot (holder t l) (formed_fill s p (list_with (style_at s p) t l) h))

pub formed_at : (s : Style) (t : Site) (i : Item) → Formed (with_item s t i) → FormedItem i
formed_at s t i h = formed_put (style_at s t.path) t.spot i (formed_fill s t.path (put (style_at s t.path) t.spot i) h)
