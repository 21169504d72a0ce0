pub mod Laws
pub mod Applied
