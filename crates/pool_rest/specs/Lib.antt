pub mod Laying
pub mod Members
pub mod Moments
pub mod Resting
pub mod SoundLogs
pub mod Standing
