-- Chains, as the code follows them. Assumes nothing.
mod ChainLaws
