pub mod Looking
pub mod Sectors
pub mod Joining
pub mod Volumes
