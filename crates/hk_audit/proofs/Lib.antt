mod CallsInRange
mod ControlInRange
mod Every
mod Joined
mod LineTexts
mod StatesInRange
pub mod StepsInRange
mod TestsInRange
pub mod Cuts
pub mod Indices
pub mod Spelled
pub mod SeenForms
pub mod Slots
pub mod FirstWords
pub mod TextsBehind
pub mod Thousands
pub mod Sound
pub mod LinesAgain
pub mod Clear
pub mod SeenFits
pub mod LineCuts
pub mod ReadAgain
mod RecordSplits
mod RecordEvents
mod RecordAudits
mod ScriptLines
pub mod RecordAgain
mod Sizes
mod ScriptCounts
mod ScriptLengths
mod LineLengths
pub mod RecordLengths
pub mod Begun
pub mod ReadOn
