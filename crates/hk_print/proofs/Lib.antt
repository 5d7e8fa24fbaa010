mod Arguments
mod FoundLabels
mod Indices
pub mod ItemByItem
pub mod Items
mod Joined
mod Names
pub mod Pieces
mod Places
pub mod StepByStep
mod WordByWord
pub mod Spelled
mod Digits
