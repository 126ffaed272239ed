pub mod Noting
pub mod Causes
