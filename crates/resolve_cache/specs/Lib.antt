-- 01's numbers and values of a resolve's answers.
pub mod Answers
-- Only private contracts cite this one.
pub mod Deciding
