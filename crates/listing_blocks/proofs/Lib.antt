-- Proofs of a listing's functions. Assumes nothing.

pub mod Listed
