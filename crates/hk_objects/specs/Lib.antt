pub mod Slots
pub mod Shelf
pub mod Indexed
pub mod Idle
pub mod Padded
