pub mod Scans
pub mod Slices
