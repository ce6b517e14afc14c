pub mod Truths
pub mod Composed
pub mod Rows
pub mod Parts
pub mod Groups
pub mod Joined
pub mod Identities
pub mod Founds
pub mod Rested
pub mod SoundSame
pub mod Wholes
mod SeatExamples
mod SoundExamples
mod VolumeExamples
mod WrittenPool
mod RefusalExamples
mod ReplayExamples
