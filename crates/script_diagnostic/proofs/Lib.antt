pub mod Among
pub mod Bytes
pub mod LineLaws
pub mod Sizes
pub mod WordLaws
