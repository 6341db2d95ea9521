pub mod Adds
pub mod Counts
pub mod Placed
pub mod Small
pub mod Limits
pub mod Single
pub mod Writable
