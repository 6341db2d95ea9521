pub mod Families
pub mod Words
pub mod Texts
pub mod Formed
