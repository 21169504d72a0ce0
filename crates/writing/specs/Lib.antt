pub mod Written
pub mod Lines
pub mod Reports
pub mod Laws
pub mod Refusals
pub mod Heads
pub mod Examples
