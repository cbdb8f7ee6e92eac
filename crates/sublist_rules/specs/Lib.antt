-- The table that a build makes of a list of entries, in reading order.
-- what a build answers: 10, 12 and 13, 14, 15, 16, or node count and worst case
pub mod Building
-- what each of its four passes does to the words lent
pub mod Passes
-- what a build leaves in them, and both
pub mod Leaving
-- Only private contracts cite this: the covered core.
pub mod Core
