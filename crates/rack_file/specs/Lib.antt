pub mod Files
pub mod FilesLaws
pub mod Untold
