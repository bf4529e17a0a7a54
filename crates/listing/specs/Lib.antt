-- The listing of a journal. Assumes nothing.

pub mod Listing
pub mod Chunks
pub mod Runs
