-- The load maker: lists and subjects that are the same on every bench.
-- one draw
pub mod Xorshift
-- the definition that the calls are held to
pub mod Load
-- what 2026-13 asks of any answer
pub mod Asked
-- examples
pub mod Rows
