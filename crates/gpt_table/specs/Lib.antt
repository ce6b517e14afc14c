pub mod Format
pub mod Disk
pub mod Calls
pub mod Plans
pub mod Changes
