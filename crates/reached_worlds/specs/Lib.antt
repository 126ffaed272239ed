pub mod Ranged
pub mod Reached
