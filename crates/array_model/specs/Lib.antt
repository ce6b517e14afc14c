pub mod View
pub mod Says
pub mod ArrayCalls
pub mod Stages
pub mod Members
pub mod Rows
pub mod Opened
