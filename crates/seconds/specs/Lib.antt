pub mod Known
pub mod Verdicts
pub mod Free
pub mod Letters
pub mod Tests
pub mod Numbers
pub mod Samples
pub mod Claims
