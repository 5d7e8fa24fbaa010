mod EventsMade
mod FewFrames
mod FramesKept
mod HaltsMade
mod LinesMade
mod StateRows
