pub mod Stacks
pub mod Parts
pub mod Sizes
pub mod Evaluations
pub mod Settled
pub mod Making
pub mod Views
