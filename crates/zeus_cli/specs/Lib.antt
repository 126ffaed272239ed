pub mod Audits
pub mod Command
pub mod Ends
pub mod Inputs
pub mod Leases
pub mod Refusal
pub mod Runs
pub mod Storms
