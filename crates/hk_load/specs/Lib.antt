pub mod Texts
pub mod Meanings
pub mod Filling
pub mod Jumping
pub mod Building
