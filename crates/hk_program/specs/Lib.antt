pub mod Carrying
pub mod Contexts
pub mod Machines
pub mod Meanings
pub mod Watching
