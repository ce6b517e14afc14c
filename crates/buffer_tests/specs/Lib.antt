pub mod OneFile
pub mod OneFileLaws
