pub mod Passes
pub mod Ranging
pub mod Signed
pub mod Telling
pub mod Reaching
