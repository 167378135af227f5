pub mod History
pub mod Law
pub mod Told
pub mod Sessions
pub mod Log
