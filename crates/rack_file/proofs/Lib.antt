pub mod FilesLemmas
pub mod FilesAttached
