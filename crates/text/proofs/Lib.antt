pub mod Steps
pub mod Forming
pub mod Whole
