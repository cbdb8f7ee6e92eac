-- What a reader must believe of a list of entries before any area exists, in this order.
pub mod Lists
pub mod Tree
pub mod Due
pub mod Nodes
pub mod Table
pub mod Timetable
