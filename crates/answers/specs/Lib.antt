-- Refusals, answers, and the balance of one account. Assumes nothing.

pub mod Refusals
pub mod Answers
pub mod Balances
