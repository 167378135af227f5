pub mod Along
pub mod Lassos
pub mod Backward
pub mod Graphs
pub mod Opens
pub mod Numbers
pub mod Claims
