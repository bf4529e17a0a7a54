-- Laws of places, of balances from a place on, of an index of numbers and of exact sums. Assumes nothing.

pub mod KindBytes
pub mod PassedRecord
pub mod Refusals
pub mod BalanceTotals
pub mod Openings
pub mod OverPlaces
pub mod Slices
pub mod Chains
pub mod Walks
pub mod NumberIndex
pub mod Apart
pub mod Backing
pub mod ExactSums
