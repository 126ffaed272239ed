pub mod History
pub mod Placements
pub mod Refusals
pub mod Telling
pub mod Promise
