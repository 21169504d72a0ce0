pub mod Sightings
pub mod Conditions
pub mod Walk
pub mod Scopes
pub mod Found
pub mod Walked
