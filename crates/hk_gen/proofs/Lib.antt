pub mod Worlds
mod Rows
mod BareEntries
pub mod ConfinedCalls
mod StageLists
mod Stages
mod StageSteps
mod Rounds
pub mod WholeRuns
