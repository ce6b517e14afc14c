pub mod LeftSymmetric
