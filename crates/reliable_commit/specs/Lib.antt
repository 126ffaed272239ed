pub mod Following
pub mod Advancing
pub mod FollowLaws
pub mod AdvanceLaws
pub mod Frames
