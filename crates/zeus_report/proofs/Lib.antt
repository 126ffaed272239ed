pub mod Copies
pub mod Numbered
pub mod RunSteps
pub mod Whole
