-- What stands beyond items, as those before them and they themselves see it.
--     ◌or_next◌             the first of two neighbours that is an atom
--     next_class_else, class_at_else     the class that follows is that of the first atom among some items, or else the class beyond them
--     set_items_beyond       items without an atom are set alike, whatever class stands beyond them: only an atom asks for it
-- Assumes nothing.
use Rattle.std.specs.Prelude.{◌≡◌, refl, ℕ}
use Rattle.std.proofs.Common.{sym, ap, ◌∙◌, arith}
use Rattle.std.proofs.Math.Option.{none, some}
use Rattle.font.specs.Font.{Font}
use Rattle.formula.specs.Tree.{Items, Item, nil, cons, noad, kern, restyle, choice}
use Rattle.boxes.specs.declared.styles.Level.{Level}
use Rattle.boxes.specs.declared.styles.Level.TheVariants.{Display, Text, Script, Scriptscript}
use Rattle.boxes.specs.declared.styles.Style.{Style}
use Rattle.boxes.specs.Styles.{plain}
use Rattle.spacing.specs.Classes.{Neighbour}
use Rattle.setting.specs.Setting.{taken, style_behind, next_class, class_at, Line, set_items, set_item}
use Rattle.setting.proofs.SettingLaws.{taken_all, set_item_style}
use Rattle.setting.specs.Beyond.{◌or_next◌}

pub or_next_assoc : (a b c : Neighbour) → (a or_next b) or_next c ≡ a or_next (b or_next c)
or_next_assoc none b c = refl
or_next_assoc (some class) b c = refl

pub or_next_none : (a : Neighbour) → a or_next none ≡ a
or_next_none none = refl
or_next_none (some class) = refl

no_atom : (a b : Neighbour) → a or_next b ≡ none → (a ≡ none) × (b ≡ none)
no_atom none b e = (refl, e)
no_atom (some class) b e = let z : ◌≡◌ {A = ℕ} 0 1 = cc in absurd (omega arith)

-- ---- the class that follows

mutual
  unfolding next_class class_at

  pub next_class_else : (s : Style) (beyond : Neighbour) (l : Items) → next_class s beyond l ≡ next_class s none l or_next beyond
  next_class_else s beyond nil = refl
  next_class_else s beyond (cons i r) =
      let t = style_behind s i in
      let rest = next_class t none r in
      ap (λ (n : Neighbour). class_at s n i) (next_class_else t beyond r)
      ∙ class_at_else s (rest or_next beyond) i
      ∙ sym (or_next_assoc (class_at s none i) rest beyond)
      ∙ ap (λ (n : Neighbour). n or_next beyond) (sym (class_at_else s rest i))

  pub class_at_else : (s : Style) (beyond : Neighbour) (i : Item) → class_at s beyond i ≡ class_at s none i or_next beyond
  class_at_else s beyond (noad kind x y z) = refl
  class_at_else s beyond (kern n) = refl
  class_at_else s beyond (restyle number) = refl
  class_at_else s beyond (choice d t sc ss) =
      sym (taken_all (λ (n : Neighbour). n or_next beyond) s (sym (next_class_else s beyond d)) (sym (next_class_else s beyond t))
      (sym (next_class_else s beyond sc)) (sym (next_class_else s beyond ss)))

-- the first item, and then the rest
pub next_class_cons : (s : Style) (beyond : Neighbour) (i : Item) (r : Items) →
    next_class s beyond (cons i r) ≡ class_at s none i or_next next_class (style_behind s i) beyond r
unfolding next_class
next_class_cons s beyond i r = class_at_else s (next_class (style_behind s i) beyond r) i

-- ---- items without an atom

-- what is equal of each of four where a neighbour is none, of the one taken
taken_where : {A : Type 0} (s : Style) {m₁ m₂ m₃ m₄ : Neighbour} {x₁ x₂ x₃ x₄ y₁ y₂ y₃ y₄ : A} → (m₁ ≡ none → x₁ ≡ y₁) →
    (m₂ ≡ none → x₂ ≡ y₂) → (m₃ ≡ none → x₃ ≡ y₃) → (m₄ ≡ none → x₄ ≡ y₄) →
    taken s m₁ m₂ m₃ m₄ ≡ none → taken s x₁ x₂ x₃ x₄ ≡ taken s y₁ y₂ y₃ y₄
taken_where s {m₁} {m₂} {m₃} {m₄} {x₁} {x₂} {x₃} {x₄} {y₁} {y₂} {y₃} {y₄} p q r u = go s.level
  where
    go : (level : Level) →
        let t = plain level in
        taken t m₁ m₂ m₃ m₄ ≡ none → taken t x₁ x₂ x₃ x₄ ≡ taken t y₁ y₂ y₃ y₄
    go Display e = p e
    go Text e = q e
    go Script e = r e
    go Scriptscript e = u e

module _ (F : Font) where
  mutual
    unfolding next_class class_at set_items set_item

    pub set_items_beyond : (b c : Neighbour) (line : Line) (l : Items) → next_class line.style none l ≡ none →
        set_items F b line l ≡ set_items F c line l
    set_items_beyond b c line nil e = refl
    set_items_beyond b c line (cons i r) e =
        let s = style_behind line.style i in
        let parts = no_atom (class_at line.style none i) (next_class s none r) (sym (next_class_cons line.style none i r) ∙ e) in
        let right = next_class s c r in
        ap (λ (m : Line). set_items F b m r) (set_item_beyond (next_class s b r) right line i parts.0)
        ∙ set_items_beyond b c (set_item F right line i) r
        (ap (λ (t : Style). next_class t none r) (set_item_style F right line i) ∙ parts.1)

    set_item_beyond : (b c : Neighbour) (line : Line) (i : Item) → class_at line.style none i ≡ none →
        set_item F b line i ≡ set_item F c line i
    set_item_beyond b c line (noad kind x y z) e = let w : ◌≡◌ {A = ℕ} 0 1 = cc in absurd (omega arith)
    set_item_beyond b c line (kern k) e = refl
    set_item_beyond b c line (restyle number) e = refl
    set_item_beyond b c line (choice d t sc ss) e =
        taken_where line.style (λ h. set_items_beyond b c line d h) (λ h. set_items_beyond b c line t h)
        (λ h. set_items_beyond b c line sc h) (λ h. set_items_beyond b c line ss h) e
