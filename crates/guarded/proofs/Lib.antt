pub mod Numbering
pub mod Listed
pub mod Laws
