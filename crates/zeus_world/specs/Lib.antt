pub mod Order
pub mod Packets
pub mod Posting
pub mod Reports
pub mod Serial
pub mod Settling
pub mod Shown
pub mod Taken
