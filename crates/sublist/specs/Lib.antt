-- 01's numbers and values of a build's answers.
pub mod Answers
-- Only private contracts cite these: a list with its text store, what the parts of a build tell each other, and how
-- many keys patterns share.
pub mod Listed
pub mod Told
pub mod Sharing
