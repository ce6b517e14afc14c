pub mod Attached
pub mod LeftAlone
