pub mod Order
pub mod Turns
pub mod Members
pub mod Turned
