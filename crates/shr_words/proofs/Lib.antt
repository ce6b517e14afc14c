mod Levels
mod Named
mod Parsed
mod Sizes
mod Walks
