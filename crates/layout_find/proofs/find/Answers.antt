-- What is found, and the words: a refusal before the reading leaves them (`stopped`, `left_alone`), and whatever is found behind it stands
-- beside both indexes (`built_both`).
use mathlib.Core.Path.{sym, ◌∙◌}
use native.Mathlib.Omega.{arith}
use Rattle.std.proofs.lemmas.Result.{err_from_is_err_and}
use Rattle.font.specs.FontLaws.{sound_tables}
use Rattle.formula.specs.PlacesLaws.{formula_good, formula_fault}
use Rattle.answers.proofs.LentLaws.{enough_words}
use Rattle.layout_find.specs.FoundLaws.{given_list}
use Rattle.layout_find.proofs.FindLaws.{Built, left_alone, built_both, fault_refused, formula_reads, examined_found}
use Rattle.layout_find.proofs.find.Goals as goal

pub returns-in_err-style-clause-index_after : goal.returns-in_err-style-clause-index_after
returns-in_err-style-clause-index_after c = (left_alone _ _ _ c.args.index.now c.args.client_index.now _ c.in_err-style.ensures).0

pub returns-in_err-style-clause-client_index_after : goal.returns-in_err-style-clause-client_index_after
returns-in_err-style-clause-client_index_after c = (left_alone _ _ _ c.args.index.now c.args.client_index.now _ c.in_err-style.ensures).1

pub build-requires : goal.build-requires
build-requires c =
    let passes = c.in_ok-style.ensures in
    let words = enough_words _ passes.words_enough in
    (sound_tables _ _ passes.table_good passes.client_good, omega arith, omega arith)

pub returns-in_err-read_formula : goal.returns-in_err-read_formula
returns-in_err-read_formula c =
    let built : Built c.args.table.now c.args.client.now c.args.index.now c.args.client_index.now c.build.new.index c.build.new.client_index =
    record { ours_is = c.build.ensures.index_after; theirs_is = c.build.ensures.client_index_after } in
    let passes = c.in_ok-style.ensures in
    let both = built_both _ _ _ _ _ _ _ _ passes built in
    let p = err_from_is_err_and c.from_residual-in_err-read_formula.result c.from_residual-in_err-read_formula.ensures.1 in
    record {
      found_of = rw p.1 (fault_refused _ _ _ _ _ _ _ _ passes built _ _ _ _ (formula_fault _ _ (sym c.in_err-read_formula.ensures)) p.2);
      index_after = both.0;
      client_index_after = both.1;
    }

pub new-font-requires : goal.new-font-requires
new-font-requires c =
    let built : Built c.args.table.now c.args.client.now c.args.index.now c.args.client_index.now c.build.new.index c.build.new.client_index =
    record { ours_is = c.build.ensures.index_after; theirs_is = c.build.ensures.client_index_after } in
    (formula_reads _ _ _ _ _ _ _ _ c.in_ok-style.ensures built _ (formula_good _ (sym c.in_ok-read_formula.ensures))).indexed

pub examine-requires : goal.examine-requires
examine-requires c =
    let built : Built c.args.table.now c.args.client.now c.args.index.now c.args.client_index.now c.build.new.index c.build.new.client_index =
    record { ours_is = c.build.ensures.index_after; theirs_is = c.build.ensures.client_index_after } in
    given_list (formula_reads _ _ _ _ _ _ _ _ c.in_ok-style.ensures built _ (formula_good _ (sym c.in_ok-read_formula.ensures)))

pub returns : goal.returns
returns c =
    let built : Built c.args.table.now c.args.client.now c.args.index.now c.args.client_index.now c.build.new.index c.build.new.client_index =
    record { ours_is = c.build.ensures.index_after; theirs_is = c.build.ensures.client_index_after } in
    let passes = c.in_ok-style.ensures in
    let reads_on = formula_reads _ _ _ _ _ _ _ _ passes built _ (formula_good _ (sym c.in_ok-read_formula.ensures)) in
    let both = built_both _ _ _ _ _ _ _ _ passes built in
    record {
      found_of = examined_found _ _ _ _ _ _ _ _ reads_on c.examine.result (rw c.new-font.ensures at c.examine.ensures);
      index_after = both.0;
      client_index_after = both.1;
    }
