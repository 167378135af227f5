pub mod Phrases
pub mod Texts
pub mod Machine
