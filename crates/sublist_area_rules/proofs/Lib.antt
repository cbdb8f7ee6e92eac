-- Laws of the nodes of an area.
pub mod AnyKeys
pub mod Turns
pub mod Ways
pub mod Places
pub mod Paths
pub mod Rep
pub mod Lookup
pub mod Stores
pub mod Step
pub mod OneKey
pub mod Grown
pub mod Halves
pub mod Hashes
