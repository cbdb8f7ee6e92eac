-- 01's numbers and values of the answers of the calls on areas of bytes.
pub mod Answers
