pub mod ConfinedCalls
pub mod WholeRuns
