pub mod ItemTexts
pub mod Jumps
pub mod WordLines
