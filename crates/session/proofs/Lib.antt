pub mod Counting
pub mod Laws
pub mod Logs
pub mod Tested
