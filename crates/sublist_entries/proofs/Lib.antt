pub mod Deciding
pub mod Numbered
pub mod Reading
