pub mod Names
pub mod Parts
pub mod Course
pub mod Eval
pub mod Play
pub mod Laws
pub mod Examples
