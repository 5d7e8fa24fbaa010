pub mod Causes
pub mod Replays
