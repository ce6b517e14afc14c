pub mod NextRows
pub mod NewRows
pub mod ZeroTurn
pub mod ZeroCall
pub mod ReadyTracked
pub mod Zeroing
