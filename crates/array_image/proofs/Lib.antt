pub mod Settled
pub mod Lost
pub mod Sources
pub mod Marked
pub mod Frames
pub mod Losing
pub mod Noted
pub mod Replays
pub mod Rewritten
mod Examples
pub mod SoundFrames
mod LogExamples
