pub mod Operations
pub mod Balances
pub mod Money
pub mod Bank
