mod Hands
mod Doings
pub mod Settling
mod Kept
mod Callers
pub mod Begins
pub mod Confined
pub mod Untouched
