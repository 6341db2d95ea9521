pub mod Fits
pub mod Simulation
pub mod Tie
pub mod Tried
pub mod Text
pub mod Sound
pub mod Mains
pub mod Settling
