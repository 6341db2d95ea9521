pub mod Explanations
pub mod Replays
pub mod Searches
pub mod Text
