pub mod AnswerLines
pub mod Shown
