-- Laws of the walk over an area.
pub mod Stores
pub mod Searches
pub mod Cuts
pub mod Visits
pub mod Walks
pub mod Writing
