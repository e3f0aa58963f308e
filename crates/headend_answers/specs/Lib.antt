pub mod AnswerFields
pub mod Answers
