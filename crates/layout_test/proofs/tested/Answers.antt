-- The tests in their order: each way out is a law of `TestedLaws`.
use mathlib.Core.Path.{sym}
use mathlib.Core.Logic.{inl, inr}
use native.Mathlib.Omega.{arith}
use Rattle.layout_test.proofs.TestedLaws.{no_style_stops, table_stops, client_stops, words_stop, all_pass}
use Rattle.layout_test.proofs.tested.Goals as goal
use Rattle.layout_test.proofs.tested.Goals.{then-words-lt-INDEX_WORDS-via-then-words-lt-INDEX_WORDS, then-words-lt-INDEX_WORDS-via-else-words-lt-INDEX_WORDS+then-client_words-lt-INDEX_WORDS}

pub returns-in_default : goal.returns-in_default
returns-in_default c = no_style_stops _ _ _ _ (sym c.in_default.ensures)

pub returns-then-not-is_good : goal.returns-then-not-is_good
returns-then-not-is_good c = table_stops _ _ _ _ _ (sym c.in-Some.ensures) (sym c.if-not-is_good.ensures)

pub returns-then-not-is_good_client : goal.returns-then-not-is_good_client
returns-then-not-is_good_client c =
    client_stops _ _ _ _ _ (sym c.in-Some.ensures) (sym c.if-not-is_good.ensures) (sym c.if-not-is_good_client.ensures)

pub returns-then-words-lt-INDEX_WORDS : goal.returns-then-words-lt-INDEX_WORDS
returns-then-words-lt-INDEX_WORDS c =
    words_stop _ _ _ _ _ (sym c.in-Some.ensures) (sym c.if-not-is_good.ensures) (sym c.if-not-is_good_client.ensures)
    (elim c.then-words-lt-INDEX_WORDS.branch [
      | then-words-lt-INDEX_WORDS-via-then-words-lt-INDEX_WORDS w ↦ inl (omega arith)
      | then-words-lt-INDEX_WORDS-via-else-words-lt-INDEX_WORDS+then-client_words-lt-INDEX_WORDS w ↦ inr (omega arith)
    ])

pub returns : goal.returns
returns c =
    all_pass _ _ _ _ _ (sym c.in-Some.ensures) (sym c.if-not-is_good.ensures) (sym c.if-not-is_good_client.ensures)
    (omega arith) (omega arith)
