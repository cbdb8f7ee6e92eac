-- Laws of a text as it is made.
pub mod Putting
pub mod Stages
