pub mod Shadows
