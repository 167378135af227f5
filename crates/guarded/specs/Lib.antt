pub mod Values
pub mod Made
