pub mod Weights
pub mod Places
pub mod Rule
pub mod Steps
pub mod Plays
pub mod Closing
pub mod Laws
