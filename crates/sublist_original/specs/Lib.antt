-- The original's functions, to be read beside its source.
pub mod Original
-- Our entries as its builder keeps them.
pub mod Entries
-- Inserts, tables and matches of both, and when they are the same.
pub mod Same
