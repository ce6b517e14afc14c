pub mod Again
mod Agreed
mod Apart
mod AtRest
mod Before
mod Causes
mod Early
mod Entry
mod Leaving
mod Live
mod Making
mod Meaning
mod Mended
mod Moments
mod Numbered
mod Refusals
mod Running
mod Served
mod Elsewhere
mod Volumes
mod Grouped
pub mod Settling
pub mod Bringing
pub mod Rereading
pub mod Replaying
pub mod Absences
pub mod Gates
pub mod Marked
pub mod Stopping
pub mod Rested
mod Reopening
mod Raised
