pub mod SystemState
pub mod Move
pub mod Fits
pub mod Plain
