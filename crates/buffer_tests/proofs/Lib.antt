pub mod OneFileCalls
