-- Laws of the rows of a run of the pair validator. Assumes nothing.

pub mod Opened
pub mod Rows
