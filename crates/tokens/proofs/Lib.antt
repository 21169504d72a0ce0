pub mod Listed
pub mod Forms
pub mod Lookups
pub mod Turns
pub mod Unique
pub mod Scan
