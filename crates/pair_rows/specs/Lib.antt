-- The rows of a run of the pair validator. Assumes nothing.

pub mod Rows
