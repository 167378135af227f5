pub mod Mapped
pub mod Same
pub mod Settled
