pub mod Turns
pub mod Steps
pub mod Fibers
pub mod Ends
pub mod Running
pub mod Replays
pub mod Kept
