pub mod Slicing
pub mod Layering
pub mod Search
