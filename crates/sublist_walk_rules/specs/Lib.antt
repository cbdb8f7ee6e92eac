-- The walk of a subject over a table, the call `match_table`, and what it means that an area holds a tree.
pub mod Walk
pub mod Matching
pub mod Holds
