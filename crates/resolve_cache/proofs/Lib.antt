pub mod Hashes
pub mod Keeping
pub mod Marks
pub mod Refusals
pub mod Resolving
pub mod Runs
pub mod Scans
