pub mod Systems
pub mod Paths
pub mod Printed
pub mod Runs
pub mod Truth
pub mod Claims
