-- Laws of the item at a place.
--     pick_in_here, pick_in_later     of the items of a list, the one in which the place lies
--     pick_in_past                   none behind a list's end
--     pick_field_before, pick_field_past     none of a field that does not hold the place
--     pick_at_choice                 a choice is asked for what its taken list is
--     picked_there                  where nothing is missing of a list and all in it fits, so it is of the item
--     picked_of                     where there are reasons there is an item, and they are its own
--     Because, picked_because       they are true of what its shifts go through, and the shifts are those at which the setter puts its fields
-- Assumes nothing.
use Rattle.std.specs.Prelude.{◌≡◌, ◌⊎◌, Bool, true, false, ℕ, zero, suc, ◌+◌, ◌-◌, ◌≤◌, ◌<◌, leb, ltb, neg_ℤ}
use Rattle.std.proofs.Math.Path.{refl, ap}
use Rattle.std.proofs.Common.{sym, subst, ◌∙◌, inl, inr, ⊎_elim, arith, lt-ltb, le-ltb, le-leb, ltb-true, ltb-false}
use Rattle.std.proofs.Math.Bool.{and-eq-true_iff}
use Rattle.std.proofs.Math.Option.{Option, none, some}
use Rattle.std.proofs.lemmas.Bool.{lt-leb}
use Rattle.font.specs.Font.{Font}
use Rattle.formula.specs.Tree.{Items, Item, Field, nil, cons, noad, kern, restyle, choice, empty, symbol, list, opening_bytes, list_opening_bytes, items_bytes, item_bytes, field_bytes}
use Rattle.boxes.specs.declared.styles.Level.{Level}
use Rattle.boxes.specs.declared.styles.Level.TheVariants.{Display, Text, Script, Scriptscript}
use Rattle.boxes.specs.declared.styles.Style.{Style}
use Rattle.boxes.specs.Styles.{plain}
use Rattle.arrange.specs.declared.Manner.{Manner}
use Rattle.arrange.specs.declared.Manner.TheVariants.{Plain}
use Rattle.arrange.specs.Arrange.{first_style, second_style, third_style, first_manner}
use Rattle.arrange.specs.ReasonsLaws.{raised, lowered, reasons_true, used}
use Rattle.reasons.specs.Reasons.{Reasons}
use Rattle.reasons.specs.Stages.{AllTrue}
use Rattle.setting.specs.Setting.{taken, style_behind, sides_of, set_list, taken_start}
use Rattle.setting.proofs.SettingLaws.{taken_all}
use Rattle.setting.specs.Missing.{later, missing_items, missing_item, missing_field}
use Rattle.setting.specs.Fitting.{box_fits, items_fit, item_fits, field_fits}
use Rattle.setting.proofs.FieldAlone.{neither_missing, not_later, all_true, fields_there, fields_fit}
use Rattle.setting.specs.Picked.{Picked, picked, ◌or_in◌, if_reached, pick_in, pick_at, pick_field, picked_item, picked_arranged, picked_reasons, picked_stages, reasons_at}

-- ---- where the place lies

module _ (s : Style) (place : ℕ) (i : Item) (r : Items) where
  -- by whether the place lies in the first item
  by_place : Bool → Option Picked
  by_place t = elim t [ true ↦ pick_at s place i | false ↦ pick_in (style_behind s i) (place - item_bytes i) r ]

  pub pick_in_here : place < item_bytes i → pick_in s place (cons i r) ≡ pick_at s place i
  unfolding pick_in by_place
  pick_in_here h = ap by_place (lt-ltb place (item_bytes i) h)

  pub pick_in_later : item_bytes i ≤ place → pick_in s place (cons i r) ≡ pick_in (style_behind s i) (place - item_bytes i) r
  unfolding pick_in by_place
  pick_in_later h = ap by_place (le-ltb place (item_bytes i) h)

pub pick_in_past : (s : Style) (place : ℕ) (l : Items) → items_bytes l ≤ place → pick_in s place l ≡ none
unfolding pick_in items_bytes
pick_in_past s place nil h = refl
pick_in_past s place (cons i r) h =
    pick_in_later s place i r (omega arith) ∙ pick_in_past (style_behind s i) (place - item_bytes i) r (omega arith)

module _ (s : Style) (at place : ℕ) where
  pub pick_field_before : (f : Field) → place < at → pick_field s at place f ≡ none
  unfolding pick_field
  pick_field_before empty h = refl
  pick_field_before (symbol family code) h = refl
  pick_field_before (list l) h = rw (lt-leb (at + list_opening_bytes (items_bytes l)) place (omega arith)) refl

  pub pick_field_past : (f : Field) → at + field_bytes f ≤ place → pick_field s at place f ≡ none
  unfolding pick_field field_bytes
  pick_field_past empty h = refl
  pick_field_past (symbol family code) h = refl
  pick_field_past (list l) h =
      let start = at + list_opening_bytes (items_bytes l) in
      rw (le-leb start place (omega arith)) (pick_in_past s (place - start) l (omega arith))

module _ (s : Style) (place : ℕ) (d t sc ss : Items) where
  pub pick_at_choice : let start = taken_start s d t sc ss in
      pick_at s place (choice d t sc ss) ≡ if_reached (leb start place) (pick_in s (place - start) (taken s d t sc ss))
  unfolding pick_at
  pick_at_choice =
      let start = taken_start s d t sc ss in
      let f = pick_in s (place - start) in
      ap (if_reached (leb start place))
      (sym (taken_all f s {d = d} {t = t} {sc = sc} {ss = ss} {d' = f d} {t' = f t} {sc' = f sc} {ss' = f ss} refl refl refl refl))

pub split : (a b : ℕ) → (a < b) ⊎ (b ≤ a)
split a b = go (ltb a b) refl
  where
    go : (t : Bool) → ltb a b ≡ t → (a < b) ⊎ (b ≤ a)
    go true e = inl (ltb-true a b e)
    go false e = inr (ltb-false a b e)

-- ---- what is not refused of the list is not refused of the item

-- nothing is missing of it, and all lists in it fit
pub record Sound (F : Font) (q : Picked) : Type 0 where
  pub present : missing_item F q.style (picked_item q) ≡ none
  pub fits : item_fits F q.style (picked_item q) ≡ true

pub or_in_some : (a b : Option Picked) {q : Picked} → a or_in b ≡ some q → (a ≡ some q) ⊎ (b ≡ some q)
or_in_some none b e = inr e
or_in_some (some x) b e = inl e

pub reached : (t : Bool) (a : Option Picked) {q : Picked} → if_reached t a ≡ some q → a ≡ some q
reached true a e = e
reached false a e = let z : ◌≡◌ {A = ℕ} 0 1 = cc in absurd (omega arith)

-- what follows of each of a choice's lists follows of the taken one
of_taken : (s : Style) {P : Type 0} {m m' m'' m''' : Option ℕ} {f f' f'' f''' : Bool} {a a' a'' a''' : Option Picked} {q : Picked} →
    (m ≡ none → f ≡ true → a ≡ some q → P) → (m' ≡ none → f' ≡ true → a' ≡ some q → P) →
    (m'' ≡ none → f'' ≡ true → a'' ≡ some q → P) → (m''' ≡ none → f''' ≡ true → a''' ≡ some q → P) →
    taken s m m' m'' m''' ≡ none → taken s f f' f'' f''' ≡ true → taken s a a' a'' a''' ≡ some q → P
of_taken s {P} {m} {m'} {m''} {m'''} {f} {f'} {f''} {f'''} {a} {a'} {a''} {a'''} {q} d t sc ss = go s.level
  where
    go : (level : Level) → let by = plain level in
        taken by m m' m'' m''' ≡ none → taken by f f' f'' f''' ≡ true → taken by a a' a'' a''' ≡ some q → P
    go Display = d
    go Text = t
    go Script = sc
    go Scriptscript = ss

module _ (F : Font) where
  mutual
    unfolding pick_in pick_at pick_field missing_items missing_item missing_field items_fit item_fits field_fits

    pub picked_there : (s : Style) (place : ℕ) (l : Items) {q : Picked} → missing_items F s l ≡ none → items_fit F s l ≡ true →
        pick_in s place l ≡ some q → Sound F q
    picked_there s place nil m f e = let z : ◌≡◌ {A = ℕ} 0 1 = cc in absurd (omega arith)
    picked_there s place (cons i r) m f e =
        let u = style_behind s i in
        let rest = missing_items F u r in
        let ms = neither_missing (missing_item F s i) (later (item_bytes i) rest) m in
        let fs = (and-eq-true_iff (item_fits F s i) (items_fit F u r)).0 f in
        ⊎_elim
        (λ h. picked_within s place i ms.0 fs.0 (sym (pick_in_here s place i r h) ∙ e))
        (λ h. picked_there u (place - item_bytes i) r (not_later (item_bytes i) rest ms.1) fs.1 (sym (pick_in_later s place i r h) ∙ e))
        (split place (item_bytes i))

    picked_within : (s : Style) (place : ℕ) (i : Item) {q : Picked} → missing_item F s i ≡ none → item_fits F s i ≡ true →
        pick_at s place i ≡ some q → Sound F q
    picked_within s zero (noad kind x y z) {q} m f e =
        let is : picked s kind x y z ≡ q = cc in
        subst (Sound F) is (record { present = m; fits = f })
    picked_within s (suc n) (noad kind x y z) m f e =
        let second = opening_bytes kind + field_bytes x in
        let third = second + field_bytes y in
        let ms = fields_there F s kind x y z m in
        let fs = fields_fit F s kind x y z f in
        let a = pick_field (first_style kind s) (opening_bytes kind) (suc n) x in
        let b = pick_field (second_style kind s) second (suc n) y in
        let c = pick_field (third_style s) third (suc n) z in
        ⊎_elim (λ h. picked_in_field (first_style kind s) (first_manner kind s) _ _ (suc n) x ms.0 fs.0 h)
        (λ h.
        ⊎_elim (λ k. picked_in_field (second_style kind s) Plain second _ (suc n) y ms.1 fs.1 k)
        (λ k. picked_in_field (third_style s) Plain third _ (suc n) z ms.2 fs.2 k)
        (or_in_some b c h))
        (or_in_some a (b or_in c) e)
    picked_within s place (kern n) m f e = let z : ◌≡◌ {A = ℕ} 0 1 = cc in absurd (omega arith)
    picked_within s place (restyle n) m f e = let z : ◌≡◌ {A = ℕ} 0 1 = cc in absurd (omega arith)
    picked_within s place (choice d t sc ss) m f e =
        let n = place - taken_start s d t sc ss in
        let h = reached (leb (taken_start s d t sc ss) place) _ e in
        of_taken s (λ m f e. picked_there s n d m f e) (λ m f e. picked_there s n t m f e) (λ m f e. picked_there s n sc m f e)
        (λ m f e. picked_there s n ss m f e) (not_later _ _ m) f h

    picked_in_field : (s : Style) (manner : Manner) (at at' place : ℕ) (x : Field) {q : Picked} → missing_field F s manner at' x ≡ none →
        field_fits F s manner x ≡ true → pick_field s at place x ≡ some q → Sound F q
    picked_in_field s manner at at' place empty m f e = let z : ◌≡◌ {A = ℕ} 0 1 = cc in absurd (omega arith)
    picked_in_field s manner at at' place (symbol family code) m f e = let z : ◌≡◌ {A = ℕ} 0 1 = cc in absurd (omega arith)
    picked_in_field s manner at at' place (list l) m f e =
        let start = at + list_opening_bytes (items_bytes l) in
        picked_there s (place - start) l (not_later _ _ m)
        ((and-eq-true_iff (box_fits (set_list F (sides_of manner) s l)) (items_fit F s l)).0 f).1
        (reached (leb start place) (pick_in s (place - start) l) e)

-- ---- the reasons are true, and the shifts those of the setter

-- what makes the reasons of an item true
pub record Because (F : Font) (q : Picked) (r : Reasons) : Type 0 where
  pub all_true : AllTrue (picked_stages F q) r
  pub up_used : raised q.kind (picked_arranged F q) ≡ r.up.shift
  pub down_used : lowered q.kind (picked_arranged F q) ≡ neg_ℤ r.down.shift

pub picked_because : (F : Font) (q : Picked) (r : Reasons) → picked_reasons F q ≡ some r → Because F q r
unfolding picked_reasons picked_stages
picked_because F q r e =
    let there = used F.parameter q.style q.kind _ _ _ _ r e in
    record { all_true = reasons_true F.parameter q.style q.kind _ _ _ _ r e; up_used = there.0; down_used = there.1 }

-- the item of which reasons are given
pub record PickedOf (F : Font) (s : Style) (place : ℕ) (l : Items) (r : Reasons) : Type 0 where
  pub item : Picked
  pub picks : pick_in s place l ≡ some item
  pub reasons_are : picked_reasons F item ≡ some r

pub picked_of : (F : Font) (s : Style) (place : ℕ) (l : Items) (r : Reasons) → reasons_at F s place l ≡ some r → PickedOf F s place l r
unfolding reasons_at
picked_of F s place l r = go (pick_in s place l) refl
  where
    go : (q : Option Picked) → pick_in s place l ≡ q → elim q [ none ↦ none | some q ↦ picked_reasons F q ] ≡ some r → PickedOf F s place l r
    go none is e = let z : ◌≡◌ {A = ℕ} 0 1 = cc in absurd (omega arith)
    go (some q) is e = record { item = q; picks = is; reasons_are = e }
