pub mod Scanning
pub mod Choosing
