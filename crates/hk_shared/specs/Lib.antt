pub mod Contexts
pub mod Books
