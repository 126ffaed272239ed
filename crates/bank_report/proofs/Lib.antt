pub mod Words
pub mod Tallies
pub mod Lines
