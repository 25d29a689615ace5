-- How many own nodes an arrangement has, passed on from crate arrange_rules. Assumes nothing.
pub use Rattle.arrange_rules.proofs.ArrangeLaws.{own_before, own_behind, few_own}
