-- A ledger's table of held records, in words. Assumes nothing.

pub mod Table
pub mod Sought
