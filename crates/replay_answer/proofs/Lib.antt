pub mod AnswerLaws
pub mod AnswerRows
