pub mod Runs
pub mod Front
pub mod Steps
pub mod Written
pub mod Unique
pub mod Order
