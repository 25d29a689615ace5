-- What follows an item, by a look at items that sets none.
--     atom_seen, kern_seen, style_seen     an item that is looked at, by its opening
--     Looked             where a look over a list stands: what was passed, and what is left; `looked_start`, `looked_step`, `looked_done`
--                        follow it, with `first_is`
--     Passing            where a look for the next atom stands, with no atom before it; `passing_start`, `atom_next`, `passed`,
--                        `finished` follow it
--     rest_opens         what a look is given at a place of a list
--     tail_given, right_alike     the rest of the list, as the code cuts it
-- Assumes nothing.
use Rattle.std.specs.Prelude.{◌≡◌, List, Option, Some, None, ℕ, ◌+◌, ◌-◌, ◌≤◌, ◌<◌, length, take, drop}
use Rattle.std.specs.Option.{option_or}
use Rattle.std.proofs.Math.Path.{refl, sym, ap}
use Rattle.std.proofs.Common.{subst, ap₂, ◌∙◌, drop-drop}
use Rattle.std.proofs.Math.Option.{none, some}
use native.Mathlib.Omega.{arith}
use Rattle.std.proofs.Math.ListN.{length-drop}
use Rattle.scaled.specs.declared.Sp.{Sp}
use Rattle.formula.specs.declared.Class.{Class}
use Rattle.formula.specs.declared.Kind.{Kind}
use Rattle.formula.specs.declared.Opening.{Opening}
use Rattle.formula.specs.declared.Opening.TheVariants.{Fields, Kern, Restyle}
use Rattle.formula.specs.Tree.{Items, nil, cons, kern_bytes, restyle_bytes}
use Rattle.formula.specs.Heads.{opening_of}
use Rattle.formula.specs.Places.{Readable, tree_of, end, item_size, item_of}
use Rattle.formula.specs.Slices.{tail_part}
use Rattle.formula.specs.PlacesLaws.{Stepped, step, tree_none}
use Rattle.formula.specs.Format.{formula_limit}
use Rattle.boxes.specs.declared.styles.Style.{Style}
use Rattle.spacing.specs.Classes.{Neighbour, class_of}
use Rattle.spacing.specs.Values.{neighbour_as}
use Rattle.setting.specs.Setting.{restyled, style_after, style_behind, next_class, class_at}
use Rattle.setting.specs.Beyond.{◌or_next◌}
use Rattle.setting.proofs.Beyond.{or_next_assoc, or_next_none, next_class_cons}
use Rattle.walk_looks.specs.declared.places.Sight.{Sight}
use Rattle.walk_looks.specs.Seen.{OpenedSeen, ItemSeen, ChangesAlike}

-- a place between two items of a list
pub record Between (s : List ℕ) (at : ℕ) : Type 0 where
  pub inside : at ≤ length s
  pub readable : Readable (drop at s)

-- and the item there, which was looked at
module _ {s : List ℕ} {at : ℕ} (place : Between s at) (more : at < length s) where
  pub stepped : Stepped (drop at s) (opening_of (drop at s))
  stepped = step (drop at s) (opening_of (drop at s)) refl place.readable (omega (arith, length-drop at s))

  pub rest_opens : length s ≤ formula_limit →
      let rest = take (length s - at) (drop at s) in
      (Readable rest × (length rest ≤ formula_limit) × (0 < length rest)) × (length rest ≤ length s)
  rest_opens short =
      let long = length-drop at s in
      rw (tail_part s at) ((place.readable, omega arith, omega arith), omega arith)

  module _ {current : Style} {c : Sight} (seen : ItemSeen current (take (length s - at) (drop at s)) c) where
    pub here : ItemSeen current (drop at s) c
    here = rw (tail_part s at) at seen

    -- the place behind it
    abbrev pub next : ℕ
    next = at + c.bytes

    pub next_some : 0 < c.bytes
    next_some = let bytes = here.bytes_is in omega (arith, stepped.some)

    rest_is : drop (item_size (drop at s) (opening_of (drop at s))) (drop at s) ≡ drop next s
    rest_is = drop-drop _ at s ∙ ap (λ (n : ℕ). drop (at + n) s) (sym here.bytes_is)

    pub next_between : Between s next
    next_between =
        let bytes = here.bytes_is in
        record { inside = omega (arith, length-drop at s, stepped.fits); readable = rw (← rest_is) stepped.rest }

    pub tree_is : tree_of (drop at s) ≡ cons (item_of (drop at s) (opening_of (drop at s))) (tree_of (drop next s))
    tree_is = stepped.tree ∙ ap (λ (r : List ℕ). cons (item_of (drop at s) (opening_of (drop at s))) (tree_of r)) rest_is

    pub next_class_lem : (beyond : Neighbour) →
        next_class current beyond (tree_of (drop at s))
        ≡ neighbour_as c.class or_next next_class c.style beyond (tree_of (drop next s))
    next_class_lem beyond =
        ap (next_class current beyond) tree_is
        ∙ next_class_cons current beyond _ (tree_of (drop next s))
        ∙ ap₂ (λ (n : Neighbour) (t : Style). n or_next next_class t beyond (tree_of (drop next s))) (sym here.class_is) (sym here.style_is)

    pub next_style : style_after current (tree_of (drop at s)) ≡ style_after c.style (tree_of (drop next s))
    unfolding style_after
    next_style = ap (style_after current) tree_is ∙ ap (λ (t : Style). style_after t (tree_of (drop next s))) (sym here.style_is)

-- ---- an item that is looked at

module _ {style : Style} {s : List ℕ} {c : Sight} where
  seen_as_lem : {o : Opening} → opening_of s ≡ o → OpenedSeen style s o c → ItemSeen style s c
  seen_as_lem opens d = subst (λ (o : Opening). OpenedSeen style s o c) (sym opens) d

  pub atom_seen : {kind : Kind} → opening_of s ≡ Fields kind → c.bytes ≡ end s kind → c.class ≡ Some (class_of kind) → c.style ≡ style →
      ItemSeen style s c
  unfolding class_at style_behind
  atom_seen opens bytes class same = seen_as_lem opens (record { bytes_is = bytes; class_is = ap neighbour_as class; style_is = same })

  pub kern_seen : {n : Sp} → opening_of s ≡ Kern n → c ≡ record { bytes = kern_bytes; class = None; style = style } → ItemSeen style s c
  unfolding class_at style_behind
  kern_seen opens is = seen_as_lem opens (rw is (record { bytes_is = refl; class_is = refl; style_is = refl }))

  pub style_seen : {n : ℕ} → opening_of s ≡ Restyle n → c ≡ record { bytes = restyle_bytes; class = None; style = restyled style n } →
      ItemSeen style s c
  unfolding class_at style_behind
  style_seen opens is = seen_as_lem opens (rw is (record { bytes_is = refl; class_is = refl; style_is = refl }))

-- ---- a look over a whole list, which starts in the style `from`

pub record Looked (from : Style) (s : List ℕ) (at : ℕ) (first : Neighbour) (current : Style) : Type 0 where
  pub place : Between s at
  pub class_is : first or_next next_class current none (tree_of (drop at s)) ≡ next_class from none (tree_of s)
  pub style_is : style_after current (tree_of (drop at s)) ≡ style_after from (tree_of s)

pub looked_start : (from : Style) (s : List ℕ) → Readable s → Looked from s 0 none from
looked_start from s r = record { place = record { inside = omega arith; readable = r }; class_is = refl; style_is = refl }

-- the first of two neighbours that is an atom, as the code finds it
pub first_is : (a b : Option Class) → neighbour_as (option_or a b) ≡ (neighbour_as a or_next neighbour_as b)
first_is None b = refl
first_is (Some class) b = refl

module _ {from : Style} {s : List ℕ} {at : ℕ} {first : Neighbour} {current : Style} (l : Looked from s at first current) where
  pub looked_step : {c : Sight} {first' : Neighbour} → at < length s → ItemSeen current (take (length s - at) (drop at s)) c →
      first' ≡ first or_next neighbour_as c.class → Looked from s (at + c.bytes) first' c.style
  looked_step {c} {first'} more seen is =
      record {
        place = next_between l.place more seen;
        class_is =
            ap (λ (n : Neighbour). n or_next next_class c.style none (tree_of (drop (at + c.bytes) s))) is
            ∙ or_next_assoc first (neighbour_as c.class) _
            ∙ ap (λ (n : Neighbour). first or_next n) (sym (next_class_lem l.place more seen none))
            ∙ l.class_is;
        style_is = sym (next_style l.place more seen) ∙ l.style_is;
      }

  pub looked_done : length s ≤ at → (at ≡ length s) × (first ≡ next_class from none (tree_of s)) × (current ≡ style_after from (tree_of s))
  unfolding next_class style_after
  looked_done over =
      let inside = l.place.inside in
      let end : tree_of (drop at s) ≡ nil = (tree_none (drop at s) (omega (arith, length-drop at s))).1 in (
        omega arith,
        sym (or_next_none first) ∙ sym (ap (λ (t : Items). first or_next next_class current none t) end) ∙ l.class_is,
        sym (ap (style_after current) end) ∙ l.style_is,
      )

-- ---- a look for the next atom

pub record Passing (from : Style) (beyond : Neighbour) (s : List ℕ) (at : ℕ) (current : Style) : Type 0 where
  pub place : Between s at
  pub same : next_class from beyond (tree_of s) ≡ next_class current beyond (tree_of (drop at s))

pub passing_start : (from : Style) (beyond : Neighbour) (s : List ℕ) → Readable s → Passing from beyond s 0 from
passing_start from beyond s r = record { place = record { inside = omega arith; readable = r }; same = refl }

module _ {from : Style} {beyond : Neighbour} {s : List ℕ} {at : ℕ} {current : Style} (p : Passing from beyond s at current) where
  module _ {c : Sight} (more : at < length s) (seen : ItemSeen current (take (length s - at) (drop at s)) c) where
    pub passed : c.class ≡ None → Passing from beyond s (at + c.bytes) c.style
    passed is =
        record {
          place = next_between p.place more seen;
          same =
              p.same ∙ next_class_lem p.place more seen beyond
              ∙ ap (λ (n : Neighbour). n or_next next_class c.style beyond (tree_of (drop (at + c.bytes) s))) (ap neighbour_as is);
        }

    pub atom_next : {class : Class} → c.class ≡ Some class → some class ≡ next_class from beyond (tree_of s)
    atom_next is =
        sym (p.same ∙ next_class_lem p.place more seen beyond
        ∙ ap (λ (n : Neighbour). n or_next next_class c.style beyond (tree_of (drop (at + c.bytes) s))) (ap neighbour_as is))

  pub finished : length s ≤ at → beyond ≡ next_class from beyond (tree_of s)
  unfolding next_class
  finished l =
      sym (p.same ∙ ap (next_class current beyond) (tree_none (drop at s) (omega (arith, length-drop at s))).1)

-- ---- the rest of a list behind an item, as the code cuts it

pub tail_given : (s : List ℕ) {k : ℕ} (k' : ℕ) → k ≡ k' → Readable (drop k' s) → length s ≤ formula_limit →
    Readable (take (length s - k) (drop k s)) × (length (take (length s - k) (drop k s)) ≤ formula_limit)
tail_given s {k} k' e readable short =
    let part : take (length s - k) (drop k s) ≡ drop k' s = tail_part s k ∙ ap (λ (n : ℕ). drop n s) e in
    rw part (readable, omega (arith, length-drop k' s))

pub right_alike : (kind : Kind) (style : Style) (s : List ℕ) (beyond right : Neighbour) {k k' : ℕ} → k ≡ k' →
    ChangesAlike kind right (next_class style beyond (tree_of (take (length s - k) (drop k s)))) →
    ChangesAlike kind right (next_class style beyond (tree_of (drop k' s)))
right_alike kind style s beyond right {k} {k'} e alike =
    subst (λ (r : List ℕ). ChangesAlike kind right (next_class style beyond (tree_of r))) (tail_part s k ∙ ap (λ (n : ℕ). drop n s) e) alike
