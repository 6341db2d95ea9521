pub mod Checks
pub mod Stretches
