pub mod Sector
pub mod Valid
pub mod Written
