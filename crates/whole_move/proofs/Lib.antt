-- What each way through the code makes of the definition.
pub mod Judging
pub mod Routing
pub mod Sound
pub mod Ways
