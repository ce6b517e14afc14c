pub mod Parsing
pub mod ReadingLemmas
mod Naming
