pub mod Pasts
pub mod StateTexts
