pub mod Fitting
pub mod Input
pub mod Text
