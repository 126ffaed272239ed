pub mod Largest
mod Rooms
mod Runs
pub mod Sending
mod Staying
