pub mod Makings
pub mod Replied
pub mod Writing
