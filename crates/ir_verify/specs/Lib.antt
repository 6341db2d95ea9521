pub mod Faults
pub mod Counts
pub mod Refusals
pub mod Joins
