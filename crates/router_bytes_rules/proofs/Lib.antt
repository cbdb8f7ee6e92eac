-- Laws of numbers in bytes; rows; the limit of 01.
pub mod Spelled
pub mod RoundTrips
pub mod Rows
pub mod Limits
