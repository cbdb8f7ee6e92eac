-- The definition is what is asked: `Exactly`. Among demand 3's calls: `Steps`. Of one subject: `One`.
pub mod Subjects
pub mod Verdicts
pub mod Stages
pub mod Exactly
pub mod Steps
pub mod Numbers
pub mod One
pub mod Rows
pub mod Instance
