-- The tree as the history of its nodes, where each line ends in it, and the worst cases by one pass.
pub mod Trie
pub mod Ends
pub mod Pass
-- Their laws.
pub mod Runs
pub mod Growth
pub mod Left
pub mod For
pub mod Children
pub mod Frontier
pub mod Sizes
pub mod Targets
pub mod Walks
pub mod Heads
pub mod Worst
