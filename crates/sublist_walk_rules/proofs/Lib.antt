-- Laws of the walk over an area.
pub mod Parts
pub mod Narrow
pub mod Frontiers
pub mod Held
pub mod Outputs
pub mod Limits
