-- Proofs about the home validator. Assumes nothing.

pub mod Words
mod HomeTotals
