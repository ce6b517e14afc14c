pub mod Founded
pub mod Refusing
pub mod Drives
pub mod Layers
pub mod Checking
pub mod Slots
pub mod Laying
pub mod Settling
