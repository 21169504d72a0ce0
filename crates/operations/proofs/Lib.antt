pub mod Sorts
pub mod Outcomes
pub mod Lawfuls
pub mod Subjects
pub mod Rooms
