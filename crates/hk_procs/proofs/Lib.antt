pub mod EmptyWorlds
