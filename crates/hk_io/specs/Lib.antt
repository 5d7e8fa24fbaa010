pub mod Causes
pub mod Plans
pub mod Streams
