pub mod Shifts
pub mod Drawing
pub mod OneToken
pub mod Making
pub mod Says
pub mod Exactly
pub mod Rows
