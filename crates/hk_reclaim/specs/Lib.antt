pub mod Naming
pub mod Kept
pub mod Tally
pub mod Marks
pub mod Made
pub mod Reach
pub mod PerSlot
