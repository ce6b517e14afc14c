pub mod WriteMakes
pub mod WriteTurn
pub mod WriteKeeps
