-- 01's numbers and values of the answers.
pub mod Answers
-- Only private contracts cite this: what the parts of a match tell each other.
pub mod Told
