pub mod Saying
pub mod Telling
pub mod Leaving
pub mod Driving
pub mod Repeating
