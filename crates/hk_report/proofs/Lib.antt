mod NamedLemmas
pub mod Lengths
mod Followed
mod Listed
pub mod Counts
pub mod NextLines
mod HistoryLemmas
mod Keys
mod WayLemmas
mod HopLemmas
mod HolderLemmas
mod Stretches
mod Raising
mod SearchLemmas
mod Bounds
mod Spans
mod Onwards
mod Found
mod FrontOrder
mod FrontLemmas
mod Relists
mod ListLemmas
mod Unchanged
mod RunLemmas
mod RunHops
mod LateRuns
mod BlockLemmas
mod HeldBlockLemmas
mod RunSkips
mod HeldIn
mod RunsBelow
mod ByObjects
mod NearObjects
mod Ordered
mod Rearranged
mod ListsKept
mod Replays
mod Makers
mod SpreadLemmas
mod KeepingLemmas
mod ReasonLemmas
mod Explained
mod MomentLemmas
mod Agreeing
mod FrontsLeftOut
mod LeftOut
mod WrittenLemmas
pub mod Retold
