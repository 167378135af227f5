pub mod Places
pub mod Sweeps
pub mod Right
pub mod Examples
pub mod Agree
