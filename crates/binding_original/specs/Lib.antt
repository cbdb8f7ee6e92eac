-- The original's functions, to be read beside their sources.
pub mod Original
-- Calls on any of its snapshots and caches, and what it is that they answer as ours do.
pub mod Calls
-- A cache of the original's beside one of ours, and what is compared of a list of calls.
pub mod Caches
