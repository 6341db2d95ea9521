pub mod Same
pub mod Parts
pub mod Sentences
