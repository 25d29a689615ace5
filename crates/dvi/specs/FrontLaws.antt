-- Laws of the node at the front of some bytes, in either form.
--     leads_own, leads_is, leads_short, leads_append     what it says that bytes begin with others
--     front_is                   only a node whose bytes lead is found
--     front_by, front_short      by a test of whether the bytes lead, and where they are too few
--     looks_body_rule, looks_body_glyph     what a body looks like, by its first byte
-- That a node that can be written is found is in proofs/FrontLaws.antt.
-- Assumes nothing.
use Rattle.std.specs.Prelude.{◌≡◌, Bool, cond, ◌&&◌, List, [], ◌∷◌, ◌++◌, ℕ, ◌<◌, eqb, length, get_or, drop}
use Rattle.std.proofs.Math.Path.{refl}
use Rattle.std.proofs.Common.{sym, arith, eqb-true, eq-eqb, ne_eqb}
use Rattle.std.proofs.Math.Bool.{true, false, and_assoc, and-false}
use Rattle.std.proofs.lemmas.Bool.{false≢true}
use Rattle.std.proofs.Math.Option.{none, some}
use Rattle.laws.specs.Options.{none_some}
use Rattle.laws.specs.Truths.{both_true}
use Rattle.nodes.specs.Nodes.{Node}
use Rattle.dvi.specs.declared.forms.Form.{Form}
use Rattle.dvi.specs.declared.forms.Form.TheVariants.{Body}
use Rattle.dvi.specs.Profile.{writable}
use Rattle.dvi.specs.Forms.{bytes_in, body_glyph, body_rule, looks_like, leads, node_if, front_in}

-- ---- bytes that begin with others

pub leads_own : (p r : List ℕ) → leads p (p ++ r) ≡ true
unfolding leads
leads_own [] r = refl
leads_own (a ∷ p) r = rw (eq-eqb a a refl) (leads_own p r)

pub leads_is : (p s : List ℕ) → leads p s ≡ true → s ≡ p ++ drop (length p) s
unfolding leads
leads_is [] s t = refl
leads_is (a ∷ p) [] t = absurd (false≢true t)
leads_is (a ∷ p) (b ∷ s) t =
    let parts = both_true {p = eqb b a} t in
    let first = eqb-true b a parts.0 in
    let rest = leads_is p s parts.1 in
    cc

pub leads_short : (p s : List ℕ) → length s < length p → leads p s ≡ false
unfolding leads
leads_short [] s l = absurd (omega arith)
leads_short (a ∷ p) [] l = refl
leads_short (a ∷ p) (b ∷ s) l = rw (leads_short p s (omega arith)) (and-false (eqb b a))

pub leads_append : (p q s : List ℕ) → leads (p ++ q) s ≡ (leads p s && leads q (drop (length p) s))
unfolding leads
leads_append [] q s = refl
leads_append (a ∷ p) q [] = refl
leads_append (a ∷ p) q (b ∷ s) = rw (leads_append p q s) (sym (and_assoc (eqb b a) (leads p s) (leads q (drop (length p) s))))

module _ (f : Form) where
  -- a node that is found
  pub record Fronts (s : List ℕ) (n : Node) : Type 0 where
    pub good : writable n ≡ true
    pub bytes : s ≡ bytes_in f n ++ drop (length (bytes_in f n)) s

  found_by : (s : List ℕ) (m : Node) {n : Node} (t u : Bool) → leads (bytes_in f m) s ≡ t → writable m ≡ u →
      cond (t && u) (some m) none ≡ some n → Fronts s n
  found_by s m {n} true true l w e =
      let same : m ≡ n = cc in
      rw (← same) (record { good = w; bytes = leads_is (bytes_in f m) s l })
  found_by s m true false l w e = absurd (none_some e)
  found_by s m false u l w e = absurd (none_some e)

  pub front_is : (s : List ℕ) (n : Node) → front_in f s ≡ some n → Fronts s n
  unfolding front_in
  front_is s n e = found_by s (looks_like f s) (leads (bytes_in f (looks_like f s)) s) (writable (looks_like f s)) refl refl e

  -- by a test of whether the bytes of the node lead
  module _ (s : List ℕ) where
    pub front_by : {n : Node} (t : Bool) → looks_like f s ≡ n → (writable n ≡ true → t ≡ leads (bytes_in f n) s) → node_if t n ≡ front_in f s
    unfolding front_in
    front_by {n} t is stands = rw is (go (writable n) refl)
      where
        go : (u : Bool) → writable n ≡ u → node_if t n ≡ node_if (leads (bytes_in f n) s) n
        go true e = rw (stands e)
        go false e = rw (e, and-false t, and-false (leads (bytes_in f n) s))

    pub front_short : length s < length (bytes_in f (looks_like f s)) → none ≡ front_in f s
    unfolding front_in
    front_short l = rw (leads_short (bytes_in f (looks_like f s)) s l)

module _ (s : List ℕ) where
  pub looks_body_rule : get_or s 0 0 ≡ 141 → looks_like Body s ≡ body_rule s
  unfolding looks_like
  looks_body_rule e = rw (eq-eqb (get_or s 0 0) 141 e)

  pub looks_body_glyph : (get_or s 0 0 ≡ 141 → ⊥) → looks_like Body s ≡ body_glyph s
  unfolding looks_like
  looks_body_glyph e = rw (ne_eqb (get_or s 0 0) 141 e)
