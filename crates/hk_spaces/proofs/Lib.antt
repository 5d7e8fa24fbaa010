pub mod Emptiness
pub mod Places
