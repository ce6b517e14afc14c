pub mod Holding
pub mod Marking
pub mod Members
pub mod Mending
pub mod Moments
pub mod Raising
pub mod Writing
