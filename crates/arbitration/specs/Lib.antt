pub mod Gathering
pub mod GatheringLaws
pub mod Giving
