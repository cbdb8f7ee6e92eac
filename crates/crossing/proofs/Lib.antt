-- Laws of a subject as it is put together.
pub mod Putting
pub mod Turns
pub mod Showing
