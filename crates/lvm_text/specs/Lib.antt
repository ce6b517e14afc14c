pub mod Words
pub mod Group
pub mod Written
pub mod Printed
pub mod Table
