pub mod Lookups
pub mod Paired
pub mod Repeats
pub mod Ranges
pub mod Apart
pub mod States
pub mod Laws
pub mod Outcome
