pub mod Contents
