pub mod Lines
pub mod Given
pub mod Outcomes
pub mod Readings
pub mod Progresses
pub mod Paths
