mod HeldLemmas
mod WaysBack
mod Replaying
mod Uses
mod WritingLemmas
mod ChainLemmas
mod RowWorlds
mod TraceRows
