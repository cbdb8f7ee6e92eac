-- What a reader must believe of texts, in this order.
pub mod Choice
pub mod Text
pub mod Utf8
pub mod Answers
pub mod Outputs
pub mod Grammar
pub mod Matching
pub mod Fnv
-- The original's functions, to be read beside its source.
pub mod Original
