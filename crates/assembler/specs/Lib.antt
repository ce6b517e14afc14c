pub mod Causes
pub mod Refusing
pub mod Rested
pub mod Sound
pub mod Volume
pub mod Wanting
