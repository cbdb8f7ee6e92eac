-- Whole moves.
-- the definition that the call is held to
pub mod Move
-- what 2026-05 asks of any answer
pub mod Asked
-- among demand 3's calls
pub mod Steps
-- examples
pub mod Rows
