pub mod Layout
pub mod Profile
pub mod Written
