-- The snapshot and its calls.
pub mod Snapshot
pub mod Answers
-- Only private contracts cite this one.
pub mod Copying
-- Rows of ours.
pub mod Rows
