pub mod Grammar
pub mod Steps
pub mod Sentences
pub mod Examples
pub mod Places
pub mod Order
