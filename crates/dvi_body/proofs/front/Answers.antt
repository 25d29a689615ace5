-- `front` meets its contract: no node has fewer than 15 bytes.
-- Assumes nothing.
use native.Mathlib.Omega.{arith}
use Rattle.dvi.specs.declared.forms.Form.TheVariants.{Body}
use Rattle.dvi.proofs.BodyLaws.{body_least}
use Rattle.dvi.specs.Forms.{looks_like}
use Rattle.dvi.specs.FrontLaws.{front_short}
use Rattle.dvi_body.proofs.front.Goals as goal

pub returns-then-s-lt-BYTES_IN_GLYPH : goal.returns-then-s-lt-BYTES_IN_GLYPH
returns-then-s-lt-BYTES_IN_GLYPH c =
    let s = c.args.s.now in
    front_short Body s (omega (arith, body_least (looks_like Body s)))
