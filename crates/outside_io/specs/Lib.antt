pub mod Counts
pub mod Reading
pub mod Unread
pub mod Putting
pub mod Room
pub mod Held
pub mod MemFilesView
pub mod MemSinkView
