pub mod Lengthening
