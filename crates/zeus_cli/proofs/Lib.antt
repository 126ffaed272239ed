pub mod Auditing
pub mod Ending
pub mod LeasesRead
pub mod Numbers
pub mod Reading
pub mod Refusing
pub mod Words
