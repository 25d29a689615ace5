-- What the code's answers stand for, and a law of it. Assumes nothing.
pub mod Values
pub mod Reports
pub mod RefusalLaws
