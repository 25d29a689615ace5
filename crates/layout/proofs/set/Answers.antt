-- What was found, as setting answers it, and the buffer after it.
use native.Mathlib.Omega.{arith}
use lib.ListN.{length}
use Rattle.std.proofs.lemmas.Result.{err_from_is_err_and}
use Rattle.layout_find.specs.FoundLaws.{given_list}
use Rattle.layout.proofs.EntryLaws.{setting_is, no_room_is, written_is, refused_is}
use Rattle.layout.proofs.set.Goals as goal

pub returns-in_err-found-clause-result_value : goal.returns-in_err-found-clause-result_value
returns-in_err-found-clause-result_value c =
    let p = err_from_is_err_and c.from_residual.result c.from_residual.ensures.1 in
    rw (p.1, p.2) (refused_is _ _ _ _ _ _ c.in_err-found.ensures.found_of c.args.nodes.now).0

pub returns-in_err-found-clause-nodes_after : goal.returns-in_err-found-clause-nodes_after
returns-in_err-found-clause-nodes_after c = (refused_is _ _ _ _ _ _ c.in_err-found.ensures.found_of c.args.nodes.now).1

pub returns-then-nodes-found : goal.returns-then-nodes-found
returns-then-nodes-found c =
    let f = c.in_ok-found.ensures in
    let none = no_room_is _ _ _ _ _ _ _ _ f.found_of.0 _ f.found_of.1 c.args.nodes.now (omega arith) in
    record { result_value = none.0; nodes_after = none.1; index_after = f.index_after; client_index_after = f.client_index_after }

pub new-font-requires : goal.new-font-requires
new-font-requires c = c.in_ok-found.ensures.found_of.0.indexed

pub set_list-requires : goal.set_list-requires
set_list-requires c = given_list c.in_ok-found.ensures.found_of.0

pub returns-clause-result_value : goal.returns-clause-result_value
returns-clause-result_value c =
    let f = c.in_ok-found.ensures.found_of in
    setting_is _ _ _ _ _ _ _ _ f.0 _ f.1 (length c.args.nodes.now) (omega arith)

pub returns-clause-nodes_after : goal.returns-clause-nodes_after
returns-clause-nodes_after c =
    let f = c.in_ok-found.ensures.found_of in
    let done = rw c.new-font.ensures at c.set_list.ensures in
    written_is _ _ _ _ _ _ _ _ f.0 _ f.1 c.args.nodes.now _ c.set_list.result (omega arith) done
