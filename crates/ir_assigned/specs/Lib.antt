pub mod Graph
pub mod Faults
pub mod Mentions
