pub mod Words
pub mod Picking
pub mod Fitting
pub mod Running
pub mod Declaring
pub mod Counting
pub mod Answering
