pub mod Counts
pub mod Found
pub mod History
pub mod Rows
pub mod Keeping
pub mod Current
pub mod Passing
pub mod Noting
