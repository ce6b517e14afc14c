pub mod Lists
pub mod Extents
pub mod Foremost
pub mod Roles
pub mod Supers
pub mod Opened
