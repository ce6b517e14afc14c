pub mod Drives
pub mod OwnAreas
pub mod OnePool
pub mod Meant
