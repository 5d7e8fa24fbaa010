pub mod Replays
pub mod OneVerdict
