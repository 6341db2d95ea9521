pub mod Layout
pub mod Scalars
pub mod Structs
pub mod Types
