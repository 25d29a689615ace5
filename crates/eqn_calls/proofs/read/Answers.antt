-- A test that fails is a refusal; then the formula is too large, has no room, or is written where it was measured. Assumes nothing.
use mathlib.Core.Path.{◌≡◌, refl, sym, ap, ◌∙◌}
use native.Mathlib.Omega.{arith}
use Rattle.eqn_grammar.proofs.ParsingLaws.{parse_sound}
use Rattle.eqn_meaning.specs.Meaning.{row_items}
use Rattle.results.specs.Results.{accepted}
use Rattle.eqn_meaning.specs.MadeLaws.{read_made}
use Rattle.results.specs.ResultsLaws.{answer_refused, buffer_refused, answer_full, buffer_full, answer_made, buffer_stored}
use Rattle.eqn_meaning.proofs.ResultLaws.{large_refused}
use Rattle.eqn_calls.specs.declared.Refusal.TheVariants.{TooLarge}
use Rattle.eqn_calls.proofs.TestLaws.{refused_with}
use Rattle.eqn_calls.proofs.SizeLaws.{made_stored}
use Rattle.eqn_calls.proofs.read.Goals as goal

pub returns-in_err-test : goal.returns-in_err-test
returns-in_err-test c =
    let refuses = c.in_err-test.ensures.tests_done in
    record {
      result_value = refused_with _ _ c.from_residual.ensures.1 ∙ refuses.answer ∙ sym (answer_refused refuses.result _ _);
      formula_after = sym (buffer_refused refuses.result _);
    }

pub returns-in_err-bytes : goal.returns-in_err-bytes
returns-in_err-bytes c =
    let d = c.in_ok-test.ensures.tests_done in
    let large = rw c.in_err-bytes.ensures.ok_part at (c.formula_size.ensures d (c.test.ensures.listed d.ns d.names_are)) in
    let result = large_refused _ _ d.names_are d.known d.parsed large in
    let value = rw c.in_err-bytes.ensures.ok_part at c.in_err-bytes.ensures.value in
    let same : c.in_err-bytes.field-0.0 ≡ TooLarge = cc in
    record {
      result_value = rw same at (refused_with _ _ c.from_residual-in_err-bytes.ensures.1) ∙ sym (answer_refused result _ _);
      formula_after = sym (buffer_refused result _);
    }

pub returns-then-formula-bytes : goal.returns-then-formula-bytes
returns-then-formula-bytes c =
    let d = c.in_ok-test.ensures.tests_done in
    let sized = rw c.in_ok-bytes.ensures.ok_part at (c.formula_size.ensures d (c.test.ensures.listed d.ns d.names_are)) in
    let result = read_made (record { ns = d.ns; names_are = d.names_are; known = d.known; row = d.row; parsed = d.parsed; fits = sized.0; formula_is = refl }) in
    record {
      result_value = sym (answer_full result _ _ (omega (arith, sized.1)));
      formula_after = sym (buffer_full result _ (omega (arith, sized.1)));
    }

pub returns : goal.returns
returns c =
    let d = c.in_ok-test.ensures.tests_done in
    let listed = c.test.ensures.listed d.ns d.names_are in
    let sized = rw c.in_ok-bytes.ensures.ok_part at (c.formula_size.ensures d listed) in
    let result = read_made (record { ns = d.ns; names_are = d.names_are; known = d.known; row = d.row; parsed = d.parsed; fits = sized.0; formula_is = refl }) in
    let stored =
    made_stored (row_items d.ns d.row) _ _ c.put_row.result sized.0 (c.put_row.ensures.row_made d.ns listed d.row (parse_sound _ _ d.parsed)) in
    let room = c.if-formula-bytes.false in
    record {
      result_value = ap accepted sized.1 ∙ sym (answer_made result _ _ (omega (arith, sized.1)));
      formula_after = stored ∙ sym (buffer_stored result _ (omega (arith, sized.1)));
    }
