-- The numbers and values of the answers.
pub mod Answers
