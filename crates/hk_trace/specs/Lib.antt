pub mod Told
pub mod Carried
pub mod Used
pub mod Traced
pub mod Held
pub mod Writings
pub mod Uses
pub mod ChainTexts
