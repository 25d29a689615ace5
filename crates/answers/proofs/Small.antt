-- No place and no count of an answer passes the longest formula.
--     ItemsIn, ItemIn, FieldIn         what is written in n bytes misses a symbol within them, and has at most n nodes
--     parts_so                         and so is whatever is read, by `formula`'s laws of what is read (`ReadIn`)
--     measured_small, setting_small    every answer is
--     why_small                  and so is every place where reasons are asked for
-- Assumes nothing.
use Rattle.std.specs.Prelude.{◌≡◌, Bool, List, ℕ, ◌+◌, ◌-◌, ◌≤◌, length}
use Rattle.std.proofs.Math.Path.{refl, subst}
use Rattle.std.proofs.Common.{sym, ap, ◌∙◌, length-append, ltb-false}
use Rattle.std.proofs.Math.Bool.{true, false}
use Rattle.std.proofs.Math.Option.{Option, none, some}
use native.Mathlib.Omega.{arith}
use Rattle.std.proofs.Math.Dec.{ltb}
use Rattle.laws.specs.Options.{none_some}
use Rattle.font.specs.Table.{good_table, good_client}
use Rattle.font.specs.Font.{Font, font_with}
use Rattle.formula.specs.declared.Fault.TheVariants.{Unreadable}
use Rattle.formula.specs.declared.Kind.{Kind}
use Rattle.formula.specs.Tree.{Items, Item, Field, cons, noad, kern, restyle, choice, empty, symbol, list, opening_bytes, kern_bytes, restyle_bytes, list_opening_bytes, third_bytes, items_bytes, item_bytes, field_bytes}
use Rattle.formula.specs.Format.{formula_limit, depth_limit}
use Rattle.formula.specs.Reading.{Read, good, fault, read, read_formula_under, read_formula}
use Rattle.formula.specs.ReadIn.{ReadClaims, Closed, ReadIn, read_in}
use Rattle.formula.specs.PlacesLaws.{opening_long}
use Rattle.formula.specs.Places.{second_field, third_field}
use Rattle.boxes.specs.declared.styles.Level.{Level}
use Rattle.boxes.specs.declared.styles.Level.TheVariants.{Display, Text, Script, Scriptscript}
use Rattle.boxes.specs.declared.styles.Style.{Style}
use Rattle.boxes.specs.Styles.{style_of, font_size}
use Rattle.spacing.specs.Classes.{Neighbour}
use Rattle.arrange.specs.declared.Manner.{Manner}
use Rattle.arrange.specs.declared.Manner.TheVariants.{Plain}
use Rattle.arrange.specs.Arrange.{first_style, second_style, third_style, first_manner}
use Rattle.arrange_rules.proofs.ArrangeLaws.{own_before, own_behind, few_own}
use Rattle.nodes.specs.NodeLaws.{length_moved}
use Rattle.setting.specs.Setting.{Box, Line, Symbol, FieldBox, symbol_in, symbol_field_box, signs_in, has_signs, item_nodes, item_box, taken, style_behind, next_class, start, no_sides, sides_of, is_enlarged, placed, set_items, set_item, set_field, set_list, taken_start}
use Rattle.setting.proofs.SettingLaws.{length_own, signs_found, set_item_choice, missing_item_choice, closed_nodes}
use Rattle.setting.specs.Missing.{◌or_else◌, later, absent_at, missing_items, missing_item, missing_field}
use Rattle.setting.specs.Fitting.{list_fits}
use Rattle.reasons.specs.Reasons.{Reasons}
use Rattle.answers.specs.Lent.{Lent, enough}
use Rattle.answers.specs.Answers.{Answered, Result, boxed, refused, refusal, accepted, no_room_number, if_fits, if_present, if_read, if_enough, if_client, if_good, if_style, result_of, result_between, measured_by, measured, measured_between, has_room, set_by, setting, setting_between}
use Rattle.answers.specs.Small.{Small}
use Rattle.answers.specs.Why.{if_picked, why_by, why_of}

-- ---- what is written in n bytes

pub record ItemsIn (n : ℕ) (l : Items) : Type 0 where
  pub bytes : items_bytes l ≡ n
  pub missing : (F : Font) (s : Style) (place : ℕ) → missing_items F s l ≡ some place → place ≤ n
  pub few : (F : Font) (beyond : Neighbour) (line : Line) →
      length (set_items F beyond line l).box.nodes ≤ length line.box.nodes + n

pub record ItemIn (n : ℕ) (i : Item) : Type 0 where
  pub bytes : item_bytes i ≡ n
  pub missing : (F : Font) (s : Style) (place : ℕ) → missing_item F s i ≡ some place → place ≤ n
  pub few : (F : Font) (right : Neighbour) (line : Line) →
      length (set_item F right line i).box.nodes ≤ length line.box.nodes + n

-- a list that is a field
abbrev pub ListIn : Field → Type 0
ListIn empty = Unit {0}
ListIn (symbol family code) = Unit {0}
ListIn (list l) = ItemsIn (items_bytes l) l

-- from one place of its item to another, k bytes
pub record FieldIn (at end k : ℕ) (f : Field) : Type 0 where
  pub bytes : end ≡ at + k
  pub missing : (F : Font) (s : Style) (manner : Manner) (place : ℕ) → missing_field F s manner at f ≡ some place → place ≤ end
  pub few : (F : Font) (s : Style) (manner : Manner) → at + length (set_field F s manner f).nodes ≤ end
  pub if_list : ListIn f

-- ---- a field

absent_place : (at place : ℕ) (o : Option Symbol) → absent_at at o ≡ some place → place ≡ at
unfolding absent_at
absent_place at place none e = cc
absent_place at place (some s) e = absurd (none_some e)

later_place : (at n place : ℕ) (o : Option ℕ) → ((p : ℕ) → o ≡ some p → p ≤ n) → later at o ≡ some place → place ≤ at + n
unfolding later
later_place at n place none h e = absurd (none_some e)
later_place at n place (some p) h e = let is : at + p ≡ place = cc in omega (arith, h p refl)

symbol_few : (size family : ℕ) (o : Option Symbol) → length (symbol_field_box size family o).nodes ≤ 1
unfolding symbol_field_box
symbol_few size family none = omega arith
symbol_few size family (some s) = omega arith

empty_in : (at end k : ℕ) → end ≡ at + k → FieldIn at end k empty
unfolding missing_field set_field
empty_in at end k e =
    record {
      bytes = e;
      missing = λ F s manner place q. absurd (none_some q);
      few = λ F s manner. omega arith;
      if_list = tt;
    }

symbol_in_lem : (at family code : ℕ) → FieldIn at (at + 3) 3 (symbol family code)
unfolding missing_field set_field
symbol_in_lem at family code =
    record {
      bytes = refl;
      missing = λ F s manner place q. omega (arith, absent_place at place (symbol_in F (font_size s) (is_enlarged manner) family code) q);
      few = λ F s manner. omega (arith, symbol_few (font_size s) family (symbol_in F (font_size s) (is_enlarged manner) family code));
      if_list = tt;
    }

list_in_lem : (at n : ℕ) (l : Items) → ItemsIn n l → FieldIn at (at + list_opening_bytes n + n) (field_bytes (list l)) (list l)
unfolding missing_field set_field field_bytes
list_in_lem at n l h =
    let opens = ap list_opening_bytes h.bytes in
    record {
      bytes = omega (arith, h.bytes, opens);
      missing = λ F s manner place q. omega (arith, opens, later_place _ n place (missing_items F s l) (h.missing F s) q);
      few = λ F s manner.
          let sides = sides_of manner in
          let line = set_items F sides.right (start sides.left s) l in
          omega (arith, h.few F sides.right (start sides.left s), ap length (closed_nodes F s sides.right line));
      if_list = subst (λ (k : ℕ). ItemsIn k l) (sym h.bytes) h;
    }

-- ---- an item

either_place : (n place : ℕ) (x y : Option ℕ) → ((p : ℕ) → x ≡ some p → p ≤ n) → ((p : ℕ) → y ≡ some p → p ≤ n) →
    (x or_else y) ≡ some place → place ≤ n
either_place n place none y f g e = g place e
either_place n place (some p) y f g e = f place e

-- an item's own nodes are no more than the bytes that it opens with
item_few : (F : Font) (s : Style) (kind : Kind) (x y z : FieldBox) →
    length (item_box F s kind x y z).nodes ≤ opening_bytes kind + length x.nodes + length y.nodes + length z.nodes
unfolding item_box item_nodes
item_few F s kind x y z =
    let p = F.parameter in
    let signs = signs_in F s kind x.shape in
    let found = signs_found F s kind x.shape in
    let ahead = own_before p s kind signs x.shape y.shape z.shape found in
    let owned = own_behind p s kind signs x.shape y.shape z.shape found in
    simp (length-append, length_moved, length_own)
    (omega (arith, ahead, owned, few_own p s kind (has_signs F s kind), opening_long kind))

module _ (kind : Kind) (x y z : Field) (m₁ m₂ m₃ : ℕ) (a : FieldIn (opening_bytes kind) m₁ (field_bytes x) x)
    (b : FieldIn m₁ m₂ (field_bytes y) y) (c : FieldIn m₂ m₃ (third_bytes kind (field_bytes z)) z) where
  noad_missing : (F : Font) (s : Style) (place : ℕ) → missing_item F s (noad kind x y z) ≡ some place → place ≤ m₃
  unfolding missing_item
  noad_missing F s place e =
      let second : m₁ ≡ second_field kind x = a.bytes in
      let third : m₂ ≡ third_field kind x y = omega (arith, a.bytes, b.bytes) in
      let in_first_lem = a.missing F (first_style kind s) (first_manner kind s) in
      let in-second = subst (λ (k : ℕ). (p : ℕ) → missing_field F (second_style kind s) Plain k y ≡ some p → p ≤ m₂) second (b.missing F (second_style kind s) Plain) in
      let in-third = subst (λ (k : ℕ). (p : ℕ) → missing_field F (third_style s) Plain k z ≡ some p → p ≤ m₃) third (c.missing F (third_style s) Plain) in
      either_place m₃ place (missing_field F (first_style kind s) (first_manner kind s) (opening_bytes kind) x) _
      (λ p q. omega (arith, in_first_lem p q, b.bytes, c.bytes))
      (λ p q.
      either_place m₃ p (missing_field F (second_style kind s) Plain (second_field kind x) y) _
      (λ p q. omega (arith, in-second p q, c.bytes))
      in-third
      q)
      e

  noad_few : (F : Font) (right : Neighbour) (line : Line) →
      length (set_item F right line (noad kind x y z)).box.nodes ≤ length line.box.nodes + m₃
  unfolding set_item placed
  noad_few F right line =
      let s = line.style in
      let X = set_field F (first_style kind s) (first_manner kind s) x in
      let Y = set_field F (second_style kind s) Plain y in
      let Z = set_field F (third_style s) Plain z in
      simp (length-append, length_moved)
      (omega (arith, item_few F s kind X Y Z, a.few F (first_style kind s) (first_manner kind s), b.few F (second_style kind s) Plain, c.few F (third_style s) Plain))

  noad_in : ItemIn m₃ (noad kind x y z)
  unfolding item_bytes
  noad_in = record { bytes = omega (arith, a.bytes, b.bytes, c.bytes); missing = noad_missing; few = noad_few }

-- an item that has no symbol and adds no node
bare_in_lem : (n : ℕ) (i : Item) → item_bytes i ≡ n → ((F : Font) (s : Style) → missing_item F s i ≡ none) →
    ((F : Font) (right : Neighbour) (line : Line) → (set_item F right line i).box.nodes ≡ line.box.nodes) → ItemIn n i
bare_in_lem n i bytes present same =
    record {
      bytes = bytes;
      missing = λ F s place q. absurd (none_some (sym (present F s) ∙ q));
      few = λ F right line. omega (arith, ap length (same F right line));
    }

module _ (d t sc ss : Items) (n : ℕ) (bytes : item_bytes (choice d t sc ss) ≡ n) (a : ItemsIn (items_bytes d) d)
    (b : ItemsIn (items_bytes t) t) (c : ItemsIn (items_bytes sc) sc) (e : ItemsIn (items_bytes ss) ss) where
  -- the taken list, behind its kind byte and its length, lies in the choice
  abbrev TakenIn : Style → Type 0
  TakenIn s =
      let l = taken s d t sc ss in
      ItemsIn (items_bytes l) l × (taken_start s d t sc ss + items_bytes l ≤ n)

  taken_in : (s : Style) → TakenIn s
  unfolding item_bytes
  taken_in s = go s.level s.cramped
    where
      go : (level : Level) (cramped : Bool) → TakenIn (record { level = level; cramped = cramped })
      go Display cramped = (a, omega arith)
      go Text cramped = (b, omega arith)
      go Script cramped = (c, omega arith)
      go Scriptscript cramped = (e, omega arith)

  choice_in : ItemIn n (choice d t sc ss)
  choice_in =
      record {
        bytes = bytes;
        missing = λ F s place q.
            let h = taken_in s in
            omega (arith, h.1, later_place _ _ place _ (h.0.missing F s) (sym (missing_item_choice F s d t sc ss) ∙ q));
        few = λ F right line.
            let h = taken_in line.style in
            omega (arith, h.1, h.0.few F right line, ap (λ (m : Line). length m.box.nodes) (set_item_choice F right line d t sc ss));
      }

-- ---- a list

cons_in : (size n : ℕ) (i : Item) (l : Items) → ItemIn size i → ItemsIn n l → ItemsIn (size + n) (cons i l)
unfolding items_bytes missing_items set_items
cons_in size n i l a b =
    record {
      bytes = omega (arith, a.bytes, b.bytes);
      missing = λ F s place q.
          either_place (size + n) place (missing_item F s i) _
          (λ p e. omega (arith, a.missing F s p e))
          (λ p e.
          let t = style_behind s i in
          omega (arith, a.bytes, later_place (item_bytes i) n p (missing_items F t l) (b.missing F t) e))
          q;
      few = λ F beyond line.
          let right = next_class (style_behind line.style i) beyond l in
          omega (arith, a.few F right line, b.few F beyond (set_item F right line i));
    }

-- ---- whatever is read

abbrev parts : ReadClaims
parts =
    record {
      OfItems = ItemsIn;
      OfItem = ItemIn;
      OfField = λ at end f. FieldIn at end (field_bytes f) f;
      OfThird = λ kind at end f. FieldIn at end (third_bytes kind (field_bytes f)) f;
    }

parts_so : Closed parts
unfolding items_bytes item_bytes field_bytes missing_items missing_item set_items set_item
parts_so =
    record {
      empty_is = λ at. empty_in at (at + 1) 1 refl;
      symbol_is = symbol_in_lem;
      list_is = list_in_lem;
      third_is = λ base at end f h. h;
      no_third = λ bar at. empty_in at at 0 (omega arith);
      noad_is = noad_in;
      kern_is = λ n. bare_in_lem kern_bytes (kern n) refl (λ F s. refl) (λ F right line. refl);
      restyle_is = λ n. bare_in_lem restyle_bytes (restyle n) refl (λ F s. refl) (λ F right line. refl);
      choice_is = λ d t sc ss m₁ m₂ m₃ m₄ a b c e.
          choice_in d t sc ss m₄ (omega (arith, a.bytes, b.bytes, c.bytes, e.bytes)) a.if_list b.if_list c.if_list e.if_list;
      nil_is = record { bytes = refl; missing = λ F s place q. absurd (none_some q); few = λ F beyond line. omega arith };
      cons_is = cons_in;
    }

-- ---- a formula, and what is found of it

abbrev FoundSmall : Result → Type 0
FoundSmall (boxed b) = length b.nodes ≤ formula_limit
FoundSmall (refused number place) = place ≤ formula_limit

module _ (F : Font) (s : Style) where
  tree_small : (n : ℕ) (l : Items) → n ≤ formula_limit → ItemsIn n l → FoundSmall (if_read F no_sides s (good l))
  unfolding if_read if_present if_fits set_list
  tree_small n l short h = present (missing_items F s l) refl
    where
      fits : (t : Bool) → FoundSmall (if_fits t (set_list F no_sides s l))
      fits true = omega (arith, h.few F none (start none s))
      fits false = omega arith

      present : (o : Option ℕ) → missing_items F s l ≡ o → FoundSmall (if_present F no_sides s l o)
      present none e = fits (list_fits F no_sides s l)
      present (some place) e = omega (arith, h.missing F s place e)

  reading_small : (n : ℕ) (r : Read) → n ≤ formula_limit → ReadIn parts n r → FoundSmall (if_read F no_sides s r)
  unfolding if_read
  reading_small n (good l) short h = tree_small n l short h
  reading_small n (fault why place) short h = omega arith

  formula_small : (formula : List ℕ) → FoundSmall (if_read F no_sides s (read_formula formula))
  unfolding read_formula_under if_read
  formula_small formula = go (ltb formula_limit (length formula)) refl
    where
      go : (t : Bool) → ltb formula_limit (length formula) ≡ t →
          FoundSmall (if_read F no_sides s (elim t [ true ↦ fault Unreadable 0 | false ↦ read (depth_limit - 1) formula ]))
      go true e = omega arith
      go false e =
          reading_small (length formula) (read (depth_limit - 1) formula) (ltb-false formula_limit (length formula) e) (read_in parts parts_so (depth_limit - 1) formula)

found_small : (style : ℕ) (table client : List ℕ) (lent : Lent) (formula : List ℕ) → FoundSmall (result_of style table client lent formula)
unfolding result_between if_style if_good if_client if_enough
found_small style table client lent formula = styled (style_of style)
  where
    F : Font
    F = font_with table client

    tabled : (s : Style) (t c w : Bool) → FoundSmall (if_good t c w F no_sides s (read_formula formula))
    tabled s true true true = formula_small F s formula
    tabled s true true false = omega arith
    tabled s true false w = omega arith
    tabled s false c w = omega arith

    styled : (o : Option Style) → FoundSmall (if_style no_sides table client lent (read_formula formula) o)
    styled none = omega arith
    styled (some s) = tabled s (good_table table) (good_client table client) (enough lent)

-- ---- the answers

pub measured_small : (style : ℕ) (table client : List ℕ) (lent : Lent) (formula : List ℕ) → Small (measured style table client lent formula)
unfolding measured_between measured_by
measured_small style table client lent formula = go (result_of style table client lent formula) (found_small style table client lent formula)
  where
    go : (r : Result) → FoundSmall r → Small (measured_by r)
    go (boxed b) h = record { place = omega arith; count = omega arith }
    go (refused number place) h = record { place = h; count = omega arith }

pub setting_small : (style : ℕ) (table client : List ℕ) (lent : Lent) (formula : List ℕ) (room : ℕ) → Small (setting style table client lent formula room)
unfolding setting_between set_by
setting_small style table client lent formula room = go (result_of style table client lent formula) (found_small style table client lent formula)
  where
    roomy : (b : Box) (t : Bool) → length b.nodes ≤ formula_limit →
        Small (elim t [ true ↦ accepted b | false ↦ refusal no_room_number 0 ])
    roomy b true h = record { place = omega arith; count = omega arith }
    roomy b false h = record { place = omega arith; count = omega arith }

    go : (r : Result) → FoundSmall r → Small (set_by room r)
    go (boxed b) h = roomy b (has_room room b) h
    go (refused number place) h = record { place = h; count = omega arith }

pub why_small : (style : ℕ) (table client : List ℕ) (lent : Lent) (formula : List ℕ) (place : ℕ) →
    (why_of style table client lent formula place).place ≤ formula_limit
unfolding why_of why_by if_picked
why_small style table client lent formula place =
    go (result_of style table client lent formula) (found_small style table client lent formula) _
  where
    go : (r : Result) → FoundSmall r → (o : Option Reasons) → (why_by r o).place ≤ formula_limit
    go (boxed b) h none = omega arith
    go (boxed b) h (some r) = omega arith
    go (refused number at) h o = h
