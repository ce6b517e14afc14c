pub mod Table
pub mod Zeros
pub mod History
pub mod Memory
pub mod MemBay
pub mod Laws
pub mod Picked
