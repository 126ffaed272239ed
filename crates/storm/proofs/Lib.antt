pub mod Making
pub mod Objects
pub mod Naming
pub mod Drawing
pub mod Running
pub mod Counting
pub mod Sizes
