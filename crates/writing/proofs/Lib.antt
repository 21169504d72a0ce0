pub mod Digits
mod Walk
mod Bound
mod Printable
mod Distinct
mod Pairs
