-- What two patterns have in common.
-- the definition that the call is held to
pub mod Crossing
-- what 2026-01 asks of any answer
pub mod Asked
-- examples
pub mod Rows
