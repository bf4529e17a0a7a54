-- The ledgers, the kinds of record, and the limits. Assumes nothing.

pub mod Limits
pub mod Ledgers
