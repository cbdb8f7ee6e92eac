-- The original's table under any generation, its cache, and its entries.
pub mod Stamping
pub mod Keeping
pub mod Maps
pub mod Smallest
-- A cache of ours, whatever the generations.
pub mod OurCache
-- The two caches are the same, until a resolve that ours does not keep; and a resolve on both.
pub mod Near
pub mod SameCache
pub mod SameResolve
-- A subject's text on both sides.
pub mod Texts
-- Every list of calls.
pub mod Together
pub mod Steps
pub mod Resolves
pub mod FirstTables
pub mod SameCalls
-- The theorem, with nothing left open.
pub mod Whole
-- The original's first table built as 1: the intended difference.
pub mod First
-- Two snapshots of one generation and one cache.
pub mod Shared
