pub mod Making
pub mod Tables
pub mod Running
pub mod Posting
pub mod Totals
pub mod History
pub mod Configuration
pub mod Runs
