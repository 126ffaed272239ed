pub mod StreamState
pub mod Moves
pub mod ReplicationInvariant
pub mod Start
pub mod Rises
