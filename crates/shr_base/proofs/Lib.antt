pub mod Blocks
pub mod Registers
pub mod Tables
pub mod Words
