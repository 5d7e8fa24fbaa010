pub mod Known
pub mod Lists
pub mod Places
pub mod Plain
pub mod Said
pub mod Written
