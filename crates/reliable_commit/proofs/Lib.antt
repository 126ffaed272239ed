pub mod Raising
pub mod Taking
pub mod Writing
pub mod Passing
pub mod Steps
