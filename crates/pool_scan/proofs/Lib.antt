pub mod Chosen
mod Decoding
mod Ranges
pub mod Sights
pub mod Seated
pub mod Meant
pub mod Valid
