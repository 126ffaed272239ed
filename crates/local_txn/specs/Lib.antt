pub mod Tries
pub mod TriesLaws
