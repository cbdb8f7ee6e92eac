-- What a reader must believe of the C structs: the answers and states that they hold.
pub mod Words
