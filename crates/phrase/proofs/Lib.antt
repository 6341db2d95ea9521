pub mod Phrase
pub mod Repeat
pub mod Whole
pub mod ManyFrom
pub mod Limits
pub mod Only
pub mod Cut
