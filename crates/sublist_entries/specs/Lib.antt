-- The list of entries, and what an insert makes of it, in reading order.
-- an entry, its text, the lines of a list
pub mod Entries
-- insert: 1 to 9, 10, 11, and what it leaves
pub mod Inserting
-- 01's numbers and values of its answers
pub mod Answers
-- the same list lent as plain numbers
pub mod Numbers
-- inserts one after another, and what is asked of them
pub mod Inserts
