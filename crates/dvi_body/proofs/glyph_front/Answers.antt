-- `glyph_front` meets its contract: other bytes look like a glyph, and are one where its bytes lead (`front_by`), which they do not
-- below the first font (`low_opcode`).
-- Assumes nothing.
use mathlib.Core.Path.{◌∙◌}
use mathlib.Core.Bool.{false}
use Rattle.dvi.specs.declared.forms.Form.TheVariants.{Body}
use Rattle.dvi.specs.FrontLaws.{front_by, looks_body_glyph}
use Rattle.dvi.specs.LeadLaws.{low_opcode}
use Rattle.dvi_body.proofs.glyph_front.Goals as goal

pub returns-then-s-lt-FNT_NUM_0 : goal.returns-then-s-lt-FNT_NUM_0
returns-then-s-lt-FNT_NUM_0 c =
    let s = c.args.s.now in
    front_by Body s false (looks_body_glyph s c.requires.fact) (λ good. low_opcode s c.type_inv.s c.requires.bytes_in_glyph_in_bounds c.if-s-lt-FNT_NUM_0.true)

pub returns : goal.returns
returns c =
    let s = c.args.s.now in
    c.found.ensures
    ∙ rw (c.number.ensures.0, c.negated.ensures.is, c.number-2.ensures.0)
    (front_by Body s c.is_glyph.result (looks_body_glyph s c.requires.fact) c.is_glyph.ensures)
