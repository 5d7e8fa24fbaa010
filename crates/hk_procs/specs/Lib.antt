pub mod Notes
pub mod Shown
pub mod Promises
pub mod Ends
