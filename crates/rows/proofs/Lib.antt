pub mod Backs
pub mod Steps
pub mod Turns
pub mod Fits
pub mod Bearing
pub mod Filling
pub mod Whole
