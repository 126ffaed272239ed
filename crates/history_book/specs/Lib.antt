pub mod Books
pub mod Entries
pub mod Ids
pub mod Tries
