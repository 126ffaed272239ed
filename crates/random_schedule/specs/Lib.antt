pub mod Choices
pub mod Keeping
pub mod Lists
pub mod Ready
pub mod Schedule
pub mod Words
