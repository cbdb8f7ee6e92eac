pub mod Copies
pub mod Fronts
pub mod Parts
pub mod Rows
pub mod Standing
