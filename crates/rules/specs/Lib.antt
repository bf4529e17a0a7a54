-- The rules, the validators, their runs, and what is claimed of them. Assumes nothing.

pub mod Lists
pub mod Rules
pub mod Calls
pub mod PairValidator
pub mod HomeValidator
pub mod Accounts
pub mod Arrivals
pub mod Charges
pub mod Cases
pub mod Beyond
