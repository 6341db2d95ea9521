pub mod Translation
pub mod Names
pub mod Sets
pub mod Lines
pub mod Families
pub mod Sources
pub mod Known
pub mod Laws
