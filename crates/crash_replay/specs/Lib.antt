pub mod Replay
pub mod ReplayLaws
