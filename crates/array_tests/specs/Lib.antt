pub mod Supers
