mod Worked
pub mod Plays
pub mod Free
pub mod Sides
pub mod Good
pub mod Begun
pub mod Texts
pub mod Members
pub mod Lawfully
pub mod Apart
pub mod Exact
pub mod Collected
pub mod Orders
pub mod Cases
