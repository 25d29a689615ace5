-- The parameters that the code holds are those of the font.
-- Assumes nothing.
use Rattle.std.specs.Prelude.{List, ◌≡◌, ℕ}
use Rattle.std.proofs.Math.Path.{fun_ext}
use Rattle.font.specs.Font.{font_of}
use Rattle.font.specs.Values.{HoldsParameters, parameters_in}

pub taken_out : (t : List ℕ) (p : List (List ℕ)) → HoldsParameters p t → parameters_in p ≡ (font_of t).parameter
unfolding parameters_in
taken_out t p holds = fun_ext (λ size. fun_ext (λ number. holds.held size number))
