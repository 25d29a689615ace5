-- The reasons that asking why gives are true (change request 7).
--     WhyTrue      the item that starts at the place, as the setter sets it, and what makes its reasons true: what is named is the shift
--                        at which the setter puts the script or part, and none of its stage is larger (`Because`)
--     why-true     of every acceptance
--     WhyOnPage    that item is set at that place of the bytes, and it stands on the page: the nodes of its superscript or numerator as
--                        far above its baseline as the answer's shift up says, those of its subscript or denominator as far below as its
--                        shift down
--     why_on_page  of every acceptance
-- Assumes nothing.
use Rattle.std.proofs.Math.Path.{◌≡◌, refl, ap, ap₂}
use Rattle.std.proofs.Common.{sym, ◌∙◌, le_refl, le-leb}
use Rattle.std.specs.Prelude.{List, ℕ, ◌*◌, neg_ℤ}
use Rattle.std.proofs.Math.Option.{Option, none, some}
use native.Mathlib.Omega.{arith}
use Rattle.std.proofs.Math.ListN.{length}
use Rattle.font.specs.Font.{font_with}
use Rattle.formula.specs.Tree.{Items}
use Rattle.formula.specs.Reading.{Read, read_formula}
use Rattle.boxes.specs.declared.styles.Style.{Style}
use Rattle.boxes.specs.Styles.{style_of}
use Rattle.boxes.specs.Boxes.{Size}
use Rattle.nodes.specs.Nodes.{Node, bytes_in_node}
use Rattle.reasons.specs.Reasons.{Reasons}
use Rattle.setting.specs.Setting.{Box, no_sides, set_list}
use Rattle.setting.specs.Picked.{Picked, pick_in, picked_reasons}
use Rattle.setting.proofs.PickedLaws.{Because, picked_because, picked_of}
use Rattle.setting.specs.ItemOnPage.{ItemOnPage, raised_field, lowered_field, StandsAbove}
use Rattle.setting.proofs.ItemOnPage.{item_on_page, raised_on_page, lowered_on_page}
use Rattle.setting.proofs.PickedSet.{picked_set}
use Rattle.answers.specs.Lent.{Lent}
use Rattle.answers.specs.Answers.{accepted_number, Result, boxed, refused, result_of, has_room, set_by, setting_between}
use Rattle.promises.specs.Accepting.{Accepted, accepted_reads, passed, boxed_of, Page, page_of}
use Rattle.promises.proofs.FoundItems.{FoundAt, found_at}
use Rattle.answers.specs.Why.{if_picked, why_by, reasons_in, why_of}

pub record WhyTrue (style : ℕ) (table client : List ℕ) (lent : Lent) (formula : List ℕ) (place : ℕ) (r : Reasons) : Type 0 where
  pub s : Style
  pub tree : Items
  pub reads : Accepted style table client lent formula s tree
  pub item : Picked
  pub picks : pick_in s place tree ≡ some item
  pub reasons_are : picked_reasons (font_with table client) item ≡ some r
  pub because : Because (font_with table client) item r

module _ (style : ℕ) (table client : List ℕ) (lent : Lent) (formula : List ℕ) where
  -- with room for its nodes setting accepts what has a box
  accepted_of : (b : Box) → result_of style table client lent formula ≡ boxed b →
      (s : Style) × (tree : Items) × Accepted style table client lent formula s tree
  unfolding setting_between set_by has_room
  accepted_of b is =
      let room = bytes_in_node * length b.nodes in
      accepted_reads style table client lent formula room
      (ap (λ (w : Result). (set_by room w).number) is ∙ rw (le-leb room room (le_refl room), set_by) refl)

  -- no refusal has the number of an acceptance
  never_refused : (place : ℕ) → result_of style table client lent formula ≡ refused accepted_number place → ⊥
  unfolding setting_between set_by
  never_refused place is =
      let h = accepted_reads style table client lent formula 0 (ap (λ (w : Result). (set_by 0 w).number) is) in
      let there = boxed_of no_sides style table client lent formula h.0 h.1 h.2.style_is h.2.reads (passed h.2) in
      let z : ◌≡◌ {A = ℕ} 0 1 = cc in
      omega arith

  module _ (place : ℕ) where
    reasons_hold : (b : Box) → result_of style table client lent formula ≡ boxed b → (r : Reasons) →
        reasons_in (font_with table client) (style_of style) (read_formula formula) place ≡ some r → WhyTrue style table client lent formula place r
    unfolding reasons_in
    reasons_hold b is r are =
        let F = font_with table client in
        let h = accepted_of b is in
        let s = h.0 in
        let tree = h.1 in
        let there = ap₂ (λ (o : Option Style) (w : Read). reasons_in F o w place) h.2.style_is h.2.reads in
        let q = picked_of F s place tree r (sym there ∙ are) in
        record {
          s = s;
          tree = tree;
          reads = h.2;
          item = q.item;
          picks = q.picks;
          reasons_are = q.reasons_are;
          because = picked_because F q.item r q.reasons_are;
        }

    pub why-true :
        let e = why_of style table client lent formula place in
        e.number ≡ accepted_number → WhyTrue style table client lent formula place e.reasons
    unfolding why_of why_by if_picked
    why-true = go (result_of style table client lent formula) refl (reasons_in (font_with table client) (style_of style) (read_formula formula) place) refl
      where
        go : (w : Result) → result_of style table client lent formula ≡ w →
            (o : Option Reasons) → reasons_in (font_with table client) (style_of style) (read_formula formula) place ≡ o →
            (why_by w o).number ≡ accepted_number → WhyTrue style table client lent formula place (why_by w o).reasons
        go (boxed b) is none are e = absurd (omega arith)
        go (boxed b) is (some r) are e = reasons_hold b is r are
        go (refused number at) is o are e = absurd (never_refused at (is ∙ ap (λ (n : ℕ). refused n at) e))

-- ---- on the page

pub record WhyOnPage (style : ℕ) (table client : List ℕ) (lent : Lent) (formula : List ℕ) (place : ℕ) (r : Reasons) : Type 0 where
  pub why : WhyTrue style table client lent formula place r
  pub found : FoundAt why.s formula place why.item
  pub size : Size
  pub nodes : List Node
  pub page : Page style table client lent formula size nodes
  pub item_there : ItemOnPage (font_with table client) why.item nodes
  pub up_there : StandsAbove item_there.reference r.up.shift (raised_field (font_with table client) why.item).nodes nodes
  pub down_there : StandsAbove item_there.reference (neg_ℤ r.down.shift) (lowered_field (font_with table client) why.item).nodes nodes

pub why_on_page : (style : ℕ) (table client : List ℕ) (lent : Lent) (formula : List ℕ) (place : ℕ) →
    let e = why_of style table client lent formula place in
    e.number ≡ accepted_number → WhyOnPage style table client lent formula place e.reasons
why_on_page style table client lent formula place e =
    let F = font_with table client in
    let why = why-true style table client lent formula place e in
    let b = set_list F no_sides why.s why.tree in
    let there = item_on_page F (picked_set why.picks) in
    record {
      why = why;
      found = found_at why.s formula place why.reads.reads why.picks;
      size = b.size;
      nodes = b.nodes;
      page = page_of why.reads;
      item_there = there;
      up_there = raised_on_page there why.because.up_used;
      down_there = lowered_on_page there why.because.down_used;
    }
