pub mod Fits
pub mod Kept
pub mod Place
pub mod PlaceLaws
