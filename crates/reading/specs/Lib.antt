pub mod Entries
pub mod Signs
pub mod Sources
pub mod Reading
