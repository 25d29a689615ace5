-- What the calls for C that measure and set give, in words. Assumes nothing.
pub mod AnswerWords
