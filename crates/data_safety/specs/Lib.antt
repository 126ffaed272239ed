pub mod RunState
pub mod RunMoves
pub mod DataInvariant
