-- Proofs about tables in words. Assumes nothing.

pub mod Limits
pub mod Holding
pub mod Records
pub mod Numbers
pub mod Scanning
pub mod Walking
pub mod Crossings
pub mod Growing
pub mod Storing
pub mod Sums
pub mod Balances
