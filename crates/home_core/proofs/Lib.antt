-- Proofs about the home validator over the words of its state. Assumes nothing.

pub mod Accept
pub mod Judging
pub mod Opened
pub mod Passing
pub mod Stepping
