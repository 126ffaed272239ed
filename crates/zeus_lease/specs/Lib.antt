pub mod Faults
pub mod Kept
pub mod Law
pub mod Machine
pub mod Places
pub mod Reading
pub mod Scripts
pub mod Text
