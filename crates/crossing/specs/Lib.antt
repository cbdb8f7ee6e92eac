-- The numbers and values of the answers.
pub mod Answers
-- Only private contracts cite these.
pub mod Writing
pub mod Puts
