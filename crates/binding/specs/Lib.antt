-- The verdict, any list of calls on a snapshot and its caches, and demand 3.
pub mod Verdict
pub mod Answers
pub mod Calls
pub mod Built
pub mod Demand
pub mod Refusing
pub mod Timetable
