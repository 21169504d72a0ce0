pub mod Walk
pub mod Laws
