pub mod Disks
pub mod DisksLaws
