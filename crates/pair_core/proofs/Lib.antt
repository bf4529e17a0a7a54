-- The pair validator over words, and the rules. Assumes nothing.

pub mod Ledgers
pub mod Accept
pub mod Judging
pub mod Opened
pub mod Passing
pub mod Stepping
