pub mod Losses
pub mod NewArrays
pub mod Growing
pub mod Rows
pub mod Reads
pub mod NewDrives
pub mod Stating
