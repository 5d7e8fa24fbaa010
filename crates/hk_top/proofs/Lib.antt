mod CodeLimits
pub mod AnswerLemmas
pub mod Histories
pub mod Scheduled
pub mod Closing
pub mod Complete
mod ServedLemmas
pub mod Ends
pub mod FoundLegal
pub mod ReadWhole
pub mod WordLemmas
pub mod WrittenRuns
pub mod CountedRuns
pub mod FollowedRuns
pub mod OneRun
pub mod NoFaults
pub mod TakenBack
mod DoesWalks
mod DoesTests
mod DoesParts
mod DoesRule
mod RulesAgree
