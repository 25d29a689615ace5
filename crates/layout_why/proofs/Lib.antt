-- What asking why answers, from what was found of the formula. Assumes nothing.
mod WhyLaws
