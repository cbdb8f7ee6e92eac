-- Laws of copies of areas, and of the two calls on them.
pub mod Copies
pub mod Resolving
