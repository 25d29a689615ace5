-- Each test that fails is a refusal, and those that have passed before it give the names, and that all words are known. Assumes nothing.
use Rattle.eqn_calls.proofs.TestLaws.{bad_told, good_told, stuck_told, bad_refuses, unknown_refuses, stuck_refuses, tests_with}
use Rattle.eqn_calls.proofs.test.Goals as goal

pub returns-in_err-index-clause-tests_done : goal.returns-in_err-index-clause-tests_done
returns-in_err-index-clause-tests_done c = tests_with _ _ _ _ c.from_residual.ensures.1 (bad_refuses _ _ (bad_told _ c.in_err-index.ensures.value))

pub returns-in-Some-clause-tests_done : goal.returns-in-Some-clause-tests_done
returns-in-Some-clause-tests_done c =
    let good = good_told _ c.in_ok-index.ensures.value in
    let unknown = c.in-Some.ensures good.0 (c.index.ensures.listed good.0 good.1) in
    unknown_refuses _ _ good.1 unknown.1 unknown.2

pub returns-in_err-test-clause-tests_done : goal.returns-in_err-test-clause-tests_done
returns-in_err-test-clause-tests_done c =
    let good = good_told _ c.in_ok-index.ensures.value in
    let all_known = c.in_default.ensures good.0 (c.index.ensures.listed good.0 good.1) in
    let is = stuck_told _ _ c.in_err-test.ensures in
    tests_with _ _ _ _ c.from_residual-in_err-test.ensures.1 (stuck_refuses _ _ good.1 all_known is.1 is.2)
