pub mod Views
pub mod Ahead
pub mod Outcomes
pub mod Numerals
