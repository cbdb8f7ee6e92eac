-- The resolve cache: its area, its state and its calls.
pub mod Mark
pub mod Area
pub mod Cache
pub mod Answers
-- Only private contracts cite this one.
pub mod Ready
-- Rows of ours.
pub mod Rows
