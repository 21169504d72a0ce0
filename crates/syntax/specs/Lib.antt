pub mod Tree
pub mod Names
pub mod Examples
pub mod Printed
