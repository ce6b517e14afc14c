pub mod Fields
pub mod Label
pub mod Header
