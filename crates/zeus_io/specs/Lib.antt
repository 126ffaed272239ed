pub mod Faults
pub mod Bytes
pub mod Status
pub mod Memory
pub mod Standard
