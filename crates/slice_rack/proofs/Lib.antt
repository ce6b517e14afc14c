pub mod Below
pub mod Blank
pub mod Tables
pub mod Running
pub mod Landed
pub mod Attached
