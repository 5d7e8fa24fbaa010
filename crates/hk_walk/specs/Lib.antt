pub mod Remembered
pub mod Walks
