pub mod Slices
pub mod SliceRack
pub mod Sliced
pub mod Laws
pub mod Changes
pub mod Runs
pub mod Landing
