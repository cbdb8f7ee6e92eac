-- Demand 3 is `Interleaving.interleaving`; `Rows` has the timetable, `Judging` the verdicts.
pub mod Tokens
pub mod Builds
pub mod Tables
pub mod Judging
pub mod Interleaving
pub mod Refusing
pub mod Rows
pub mod Instance
pub mod MetCalls
