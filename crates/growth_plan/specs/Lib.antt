pub mod Book
pub mod Target
pub mod Works
pub mod Doing
pub mod Admission
pub mod Tally
pub mod Sound
