pub mod Ltl
pub mod Table
pub mod Stack
pub mod Words
pub mod Atoms
pub mod Evaluated
pub mod View
