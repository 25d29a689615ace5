-- Items, and then more items; and a choice, which is set as if the items of its taken list stood in its place.
--     style_after_join, next_class_join, set_items_join     items, and then more, which the first ones see as a class beyond them
--     Alike              of two lists that start in one style: the style behind them, the class of the first atom and the line are the same
--     choice_in_place    a choice and its taken list are alike
--     spot_in_place      so are a list with an item at a spot, and the item between the items on either side of it
-- The last goes down the choices around the spot: lists that are alike are so behind other items, and before others.
-- Assumes nothing.
use Rattle.std.specs.Prelude.{◌≡◌, refl, Bool}
use Rattle.std.proofs.Common.{sym, ap, subst, ◌∙◌}
use Rattle.font.specs.Font.{Font}
use Rattle.formula.specs.Tree.{Items, Item, nil, cons, choice}
use Rattle.boxes.specs.declared.styles.Level.{Level}
use Rattle.boxes.specs.declared.styles.Level.TheVariants.{Display, Text, Script, Scriptscript}
use Rattle.boxes.specs.declared.styles.Style.{Style}
use Rattle.spacing.specs.Classes.{Neighbour}
use Rattle.setting.specs.Setting.{Box, Line, taken, style_after, style_behind, next_class, class_at, set_items, set_item}
use Rattle.setting.proofs.SettingLaws.{style_behind_choice_lem, class_at_choice, set_item_choice, set_items_style, set_item_style}
use Rattle.setting.specs.Paths.{join, choice_with, Spot, among, within, put, items_before, items_after}

join_assoc : (a b c : Items) → join (join a b) c ≡ join a (join b c)
join_assoc nil b c = refl
join_assoc (cons i a) b c = ap (cons i) (join_assoc a b c)

-- ---- items, and then more items

pub style_after_join : (s : Style) (b r : Items) → style_after s (join b r) ≡ style_after (style_after s b) r
unfolding style_after
style_after_join s nil r = refl
style_after_join s (cons i b) r = style_after_join (style_behind s i) b r

pub next_class_join : (s : Style) (beyond : Neighbour) (b r : Items) →
    next_class s beyond (join b r) ≡ next_class s (next_class (style_after s b) beyond r) b
unfolding next_class style_after
next_class_join s beyond nil r = refl
next_class_join s beyond (cons i b) r =
    ap (λ (n : Neighbour). class_at s n i) (next_class_join (style_behind s i) beyond b r)

pub set_items_join : (F : Font) (beyond : Neighbour) (line : Line) (b r : Items) →
    set_items F beyond line (join b r)
    ≡ set_items F beyond (set_items F (next_class (style_after line.style b) beyond r) line b) r
unfolding set_items style_after
set_items_join F beyond line nil r = refl
set_items_join F beyond line (cons i b) r =
    let s = style_behind line.style i in
    let next = set_item F (next_class s (next_class (style_after s b) beyond r) b) line i in
    ap (λ (n : Neighbour). set_items F beyond (set_item F n line i) (join b r)) (next_class_join s beyond b r)
    ∙ set_items_join F beyond next b r
    ∙ ap (λ (t : Style). set_items F beyond (set_items F (next_class (style_after t b) beyond r) next b) r)
    (set_item_style F _ line i)

-- ---- lists that are set alike

pub record Alike (s : Style) (l m : Items) : Type 0 where
  pub style_is : style_after s l ≡ style_after s m
  pub class_is : (beyond : Neighbour) → next_class s beyond l ≡ next_class s beyond m
  pub set_is : (F : Font) (beyond left : Neighbour) (box : Box) →
      let line : Line = record { left = left; style = s; box = box } in
      set_items F beyond line l ≡ set_items F beyond line m

itself : (s : Style) (l : Items) → Alike s l l
itself s l = record { style_is = refl; class_is = λ beyond. refl; set_is = λ F beyond left box. refl }

◌and_then◌ : {s : Style} {l m n : Items} → Alike s l m → Alike s m n → Alike s l n
◌and_then◌ e f =
    record {
      style_is = e.style_is ∙ f.style_is;
      class_is = λ beyond. e.class_is beyond ∙ f.class_is beyond;
      set_is = λ F beyond left box. e.set_is F beyond left box ∙ f.set_is F beyond left box;
    }

from_line : {s : Style} {l m : Items} → Alike s l m → (F : Font) (beyond : Neighbour) (line : Line) → line.style ≡ s →
    set_items F beyond line l ≡ set_items F beyond line m
from_line {s} {l} {m} e F beyond line h =
    subst (λ (t : Style).
    let from : Line = record { left = line.left; style = t; box = line.box } in
    set_items F beyond from l ≡ set_items F beyond from m) (sym h) (e.set_is F beyond line.left line.box)

infixl 20 ◌and_then◌
-- behind the same items
behind : {s : Style} {l m : Items} (b : Items) → Alike (style_after s b) l m → Alike s (join b l) (join b m)
behind {s} {l} {m} b e =
    record {
      style_is = style_after_join s b l ∙ e.style_is ∙ sym (style_after_join s b m);
      class_is = λ beyond.
          next_class_join s beyond b l
          ∙ ap (λ (n : Neighbour). next_class s n b) (e.class_is beyond)
          ∙ sym (next_class_join s beyond b m);
      set_is = λ F beyond left box.
          let line : Line = record { left = left; style = s; box = box } in
          let right = next_class (style_after s b) beyond m in
          set_items_join F beyond line b l
          ∙ ap (λ (n : Neighbour). set_items F beyond (set_items F n line b) l) (e.class_is beyond)
          ∙ from_line e F beyond (set_items F right line b) (set_items_style F right line b)
          ∙ sym (set_items_join F beyond line b m);
    }

-- before the same items
before : {s : Style} {l m : Items} → Alike s l m → (r : Items) → Alike s (join l r) (join m r)
before {s} {l} {m} e r =
    record {
      style_is = style_after_join s l r ∙ ap (λ (t : Style). style_after t r) e.style_is ∙ sym (style_after_join s m r);
      class_is = λ beyond.
          next_class_join s beyond l r
          ∙ ap (λ (t : Style). next_class s (next_class t beyond r) l) e.style_is
          ∙ e.class_is (next_class (style_after s m) beyond r)
          ∙ sym (next_class_join s beyond m r);
      set_is = λ F beyond left box.
          let line : Line = record { left = left; style = s; box = box } in
          set_items_join F beyond line l r
          ∙ ap (λ (t : Style). set_items F beyond (set_items F (next_class t beyond r) line l) r) e.style_is
          ∙ ap (λ (k : Line). set_items F beyond k r) (e.set_is F (next_class (style_after s m) beyond r) left box)
          ∙ sym (set_items_join F beyond line m r);
    }

-- a choice, and its taken list in its place
pub choice_in_place : (s : Style) (d t sc ss r : Items) → Alike s (cons (choice d t sc ss) r) (join (taken s d t sc ss) r)
unfolding style_after next_class set_items
choice_in_place s d t sc ss r =
    let i = choice d t sc ss in
    let l = taken s d t sc ss in
    let same-style : style_behind s i ≡ style_after s l = style_behind_choice_lem s d t sc ss in
    record {
      style_is = ap (λ (u : Style). style_after u r) same-style ∙ sym (style_after_join s l r);
      class_is = λ beyond.
          class_at_choice s d t sc ss (next_class (style_behind s i) beyond r)
          ∙ ap (λ (u : Style). next_class s (next_class u beyond r) l) same-style
          ∙ sym (next_class_join s beyond l r);
      set_is = λ F beyond left box.
          let line : Line = record { left = left; style = s; box = box } in
          ap (λ (m : Line). set_items F beyond m r) (set_item_choice F (next_class (style_behind s i) beyond r) line d t sc ss)
          ∙ ap (λ (u : Style). set_items F beyond (set_items F (next_class u beyond r) line l) r) same-style
          ∙ sym (set_items_join F beyond line l r);
    }

taken_in_place : (s : Style) (l a b c r : Items) → Alike s (cons (choice_with s.level l a b c) r) (join l r)
taken_in_place s l a b c r = go s.level s.cramped
  where
    go : (level : Level) (cramped : Bool) →
        Alike (record { level = level; cramped = cramped }) (cons (choice_with level l a b c) r) (join l r)
    go Display cramped = choice_in_place (record { level = Display; cramped = cramped }) l a b c r
    go Text cramped = choice_in_place (record { level = Text; cramped = cramped }) a l b c r
    go Script cramped = choice_in_place (record { level = Script; cramped = cramped }) a b l c r
    go Scriptscript cramped = choice_in_place (record { level = Scriptscript; cramped = cramped }) a b c l r

-- ---- an item at a spot

-- the item between those on either side, as if the items of the choices around it stood in their places
abbrev pub spread : Spot → Item → Items
spread spot i = join (items_before spot) (cons i (items_after spot))

spread_within : (b x y z : Items) (spot : Spot) (r : Items) (i : Item) →
    join b (join (spread spot i) r) ≡ spread (within b x y z spot r) i
spread_within b x y z spot r i =
    ap (join b) (join_assoc (items_before spot) (cons i (items_after spot)) r)
    ∙ sym (join_assoc b (items_before spot) (cons i (join (items_after spot) r)))

pub spot_in_place : (s : Style) (spot : Spot) (i : Item) → Alike s (put s spot i) (spread spot i)
spot_in_place s (among b r) i = itself s (join b (cons i r))
spot_in_place s (within b x y z spot r) i =
    let t = style_after s b in
    let inner : Alike t (cons (choice_with t.level (put t spot i) x y z) r) (join (spread spot i) r) =
    taken_in_place t (put t spot i) x y z r and_then before (spot_in_place t spot i) r in
    subst (Alike s (put s (within b x y z spot r) i)) (spread_within b x y z spot r i) (behind b inner)
