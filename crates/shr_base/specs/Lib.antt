pub mod Blocks
pub mod Crc
pub mod Ids
pub mod Sum
pub mod Units
