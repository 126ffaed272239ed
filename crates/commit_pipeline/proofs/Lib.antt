pub mod Acks
pub mod Fronts
pub mod Keeping
pub mod Sends
