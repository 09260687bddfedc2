-- What holds of records: of every list of lines without conflict, and of the tables by which documents are read.
pub mod Same
pub mod Answers
pub mod Laws
pub mod Names
pub mod Forms
pub mod Records
pub mod AnswersBy
pub mod Exact
