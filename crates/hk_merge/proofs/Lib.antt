pub mod Filling
pub mod Inheriting
