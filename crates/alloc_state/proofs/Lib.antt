pub mod LongerHistory
pub mod TagsBelow
pub mod Makes
pub mod Answering
pub mod Repeating
mod ByteCopies
