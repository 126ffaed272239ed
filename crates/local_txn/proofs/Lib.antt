pub mod Against
pub mod Answering
pub mod Committing
pub mod Worn
