-- Laws of a listing and the proofs of its claims. Assumes nothing.

pub mod Blocks
pub mod Chunked
pub mod Runs
