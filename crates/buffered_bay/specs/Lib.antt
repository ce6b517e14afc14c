pub mod View
pub mod StoreCalls
pub mod Buffered
