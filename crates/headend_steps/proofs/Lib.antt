pub mod AskedLaws
pub mod AnswerFields
pub mod AnswerFits
pub mod AnswersRead
pub mod PutLaws
