pub mod Numbers
pub mod Script
pub mod Counts
pub mod Storm
pub mod Summary
