pub mod Sums
pub mod UpperBound
pub mod Steps
pub mod Reached
pub mod CutPoints
pub mod Pass
pub mod Totals
pub mod Heights
