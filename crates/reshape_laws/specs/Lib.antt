pub mod Ahead
pub mod Reshapes
pub mod Rows
