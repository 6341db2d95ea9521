pub mod Words
pub mod Asks
pub mod Copies
pub mod Parts
pub mod Owned
pub mod Fits
pub mod Rooms
