pub mod Held
pub mod Looking
pub mod Ways
pub mod Drafts
pub mod Ranks
