-- Places of a table, balances from a place on, an index of numbers, exact sums. Assumes nothing.

pub mod OverPlaces
pub mod LedgerBalances
pub mod Amounts
pub mod NumberIndex
pub mod ExactSums
