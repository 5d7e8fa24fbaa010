pub mod Standing
pub mod Shelves
mod Indexing
mod Tables
mod Frees
mod Padding
mod InPlace
