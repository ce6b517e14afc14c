pub mod Equality
pub mod Lists
pub mod Histories
pub mod Attachments
pub mod Effects
pub mod Answered
pub mod Attaching
pub mod Images
