pub mod Disks
pub mod Replay
pub mod Drives
pub mod Volumes
pub mod Meaning
pub mod Book
pub mod Sound
pub mod Alike
