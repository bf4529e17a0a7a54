-- Proofs about the pair validator. Assumes nothing.

pub mod Words
mod PairTotals
