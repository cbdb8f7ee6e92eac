-- The nodes of a table in an area of words, in reading order: what the words say, then how nodes are put in.
pub mod Words
pub mod Growing
