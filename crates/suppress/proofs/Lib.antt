pub mod Texts
pub mod Reading
pub mod Refusing
pub mod Places
pub mod Shown
pub mod Programs
