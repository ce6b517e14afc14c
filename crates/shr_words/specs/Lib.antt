pub mod Forms
pub mod LayoutWords
pub mod Parser
