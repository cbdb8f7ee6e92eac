-- The numbers and values of the answers.
pub mod Answers
-- Only private contracts cite this one.
pub mod Told
