pub mod Reading
pub mod Writing
pub mod Phases
pub mod Durably
pub mod Calling
pub mod Names
