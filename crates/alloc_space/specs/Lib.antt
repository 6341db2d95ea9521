pub mod Spaces
pub mod Steps
pub mod Tried
