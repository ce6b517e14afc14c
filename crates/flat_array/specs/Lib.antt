pub mod Array
pub mod Reply
pub mod Disk
