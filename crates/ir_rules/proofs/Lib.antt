pub mod Adds
pub mod Places
pub mod Least
pub mod Any
pub mod Table
pub mod Uses
pub mod Limits
pub mod Agree
