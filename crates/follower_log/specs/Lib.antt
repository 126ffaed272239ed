pub mod Streams
pub mod StreamLaws
