pub mod NameSpaces
