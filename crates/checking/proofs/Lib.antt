pub mod Noted
pub mod Going
pub mod Others
pub mod Surveys
pub mod Walking
pub mod Least
pub mod Levels
