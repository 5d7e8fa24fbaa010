pub mod Values
pub mod Readings
pub mod Scripts
pub mod Templates
