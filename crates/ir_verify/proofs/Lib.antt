pub mod Said
pub mod Steps
pub mod Seconds
pub mod Whole
pub mod Ways
