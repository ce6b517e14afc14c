pub mod Kernel
pub mod Laws
