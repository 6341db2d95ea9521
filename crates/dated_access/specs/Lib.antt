pub mod Path
pub mod Denial
pub mod Denied
pub mod Change
pub mod Others
pub mod Pieces
