pub mod Object
pub mod Moves
pub mod OwnershipInvariant
pub mod Kept
pub mod Run
