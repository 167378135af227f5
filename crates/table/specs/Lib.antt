pub mod Words
pub mod Refused
pub mod Parts
pub mod Measured
pub mod Granted
