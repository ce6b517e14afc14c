pub mod Strings
pub mod Texts
pub mod Faults
pub mod Lexing
pub mod Lines
pub mod ReadBack
pub mod Numbered
pub mod SegmentTable
