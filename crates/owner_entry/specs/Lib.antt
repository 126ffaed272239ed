pub mod Acceptance
pub mod Directory
