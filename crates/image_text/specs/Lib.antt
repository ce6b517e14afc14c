pub mod Contents
pub mod Volume
pub mod Lines
pub mod Reading
pub mod Putting
