-- Bad names and bytes that are no formula are refused; then the formula has no text, its text has no room, or it is written where it was
-- measured. Assumes nothing.
use mathlib.Core.Path.{◌≡◌, refl, sym, ap, ◌∙◌}
use native.Mathlib.Omega.{arith}
use Rattle.formula.specs.PlacesLaws.{formula_good, formula_fault}
use Rattle.eqn_names.proofs.NamesLaws.{table_records}
use Rattle.results.specs.Results.{accepted}
use Rattle.eqn_meaning.specs.MadeLaws.{written_made}
use Rattle.results.specs.ResultsLaws.{answer_refused, buffer_refused, answer_full, buffer_full, answer_made, buffer_stored}
use Rattle.eqn_meaning.proofs.ResultLaws.{unread_refused, textless_refused}
use Rattle.eqn_calls.specs.declared.Refusal.TheVariants.{WithoutText}
use Rattle.eqn_calls.proofs.TestLaws.{bad_told, good_told, bad_unwritten, refused_with}
use Rattle.eqn_calls.proofs.SizeLaws.{put_stored}
use Rattle.eqn_calls.proofs.write.Goals as goal

pub returns-in_err-check : goal.returns-in_err-check
returns-in_err-check c =
    let result = bad_unwritten _ _ (bad_told _ c.in_err-check.ensures) in
    record {
      result_value = refused_with _ _ c.from_residual.ensures.1 ∙ sym (answer_refused result _ _);
      text_after = sym (buffer_refused result _);
    }

pub returns-in_err-read_formula : goal.returns-in_err-read_formula
returns-in_err-read_formula c =
    let good = good_told _ c.in_ok-check.ensures in
    let result = unread_refused _ _ good.1 (formula_fault _ _ (sym c.in_err-read_formula.ensures)) in
    record {
      result_value = refused_with _ _ c.from_residual-in_err-read_formula.ensures.1 ∙ sym (answer_refused result _ _);
      text_after = sym (buffer_refused result _);
    }

pub text_size-requires : goal.text_size-requires
text_size-requires c =
    let good = good_told _ c.in_ok-check.ensures in
    let is = formula_good _ (sym c.in_ok-read_formula.ensures) in
    ((good.0, table_records _ good.1), is.readable, is.small)

pub returns-in_err-bytes : goal.returns-in_err-bytes
returns-in_err-bytes c =
    let good = good_told _ c.in_ok-check.ensures in
    let is = formula_good _ (sym c.in_ok-read_formula.ensures) in
    let none_is = rw c.in_err-bytes.ensures.ok_part at (c.text_size.ensures good.0 (table_records _ good.1)) in
    let result = textless_refused _ _ good.1 is.is none_is in
    let value = rw c.in_err-bytes.ensures.ok_part at c.in_err-bytes.ensures.value in
    let same : c.in_err-bytes.field-0.0 ≡ WithoutText = cc in
    record {
      result_value = rw same at (refused_with _ _ c.from_residual-in_err-bytes.ensures.1) ∙ sym (answer_refused result _ _);
      text_after = sym (buffer_refused result _);
    }

pub returns-then-text-bytes : goal.returns-then-text-bytes
returns-then-text-bytes c =
    let good = good_told _ c.in_ok-check.ensures in
    let is = formula_good _ (sym c.in_ok-read_formula.ensures) in
    let sized = rw c.in_ok-bytes.ensures.ok_part at (c.text_size.ensures good.0 (table_records _ good.1)) in
    let result = written_made (record { ns = good.0; names_are = good.1; items = _; reads = is.is; row = sized.0; derived = sized.1; text_is = refl }) in
    record {
      result_value = sym (answer_full result _ _ (omega (arith, sized.2)));
      text_after = sym (buffer_full result _ (omega (arith, sized.2)));
    }

pub put_list-requires : goal.put_list-requires
put_list-requires c =
    let good = good_told _ c.in_ok-check.ensures in
    let is = formula_good _ (sym c.in_ok-read_formula.ensures) in
    ((good.0, table_records _ good.1), is.readable, omega (arith, is.small))

pub returns : goal.returns
returns c =
    let good = good_told _ c.in_ok-check.ensures in
    let is = formula_good _ (sym c.in_ok-read_formula.ensures) in
    let records = table_records _ good.1 in
    let sized = rw c.in_ok-bytes.ensures.ok_part at (c.text_size.ensures good.0 records) in
    let result = written_made (record { ns = good.0; names_are = good.1; items = _; reads = is.is; row = sized.0; derived = sized.1; text_is = refl }) in
    let stored = put_stored _ _ _ c.put_list.result sized.1 (c.put_list.ensures.list_put good.0 records) in
    let room = c.if-text-bytes.false in
    record {
      result_value = ap accepted sized.2 ∙ sym (answer_made result _ _ (omega (arith, sized.2)));
      text_after = stored ∙ sym (buffer_stored result _ (omega (arith, sized.2)));
    }
