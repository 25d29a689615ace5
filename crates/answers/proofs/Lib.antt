-- Laws of answers and of lent words, and how small an answer's numbers are. Assumes nothing.
pub mod AnswersLaws
pub mod LentLaws
pub mod Small
