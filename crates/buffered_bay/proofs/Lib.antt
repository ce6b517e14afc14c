pub mod WindowsKept
pub mod WindowCalls
pub mod InRow
pub mod Answered
pub mod Attached
pub mod Written
