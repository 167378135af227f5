pub mod Digits
pub mod Marks
pub mod Reading
pub mod Alive
pub mod Words
pub mod Outcomes
pub mod OutAt
pub mod Settled
