pub mod Causes
pub mod Printed
pub mod Rows
