pub mod Model
pub mod Making
