pub mod Orders
pub mod Run
pub mod Top
pub mod Command
