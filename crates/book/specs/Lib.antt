pub mod Records
pub mod Books
