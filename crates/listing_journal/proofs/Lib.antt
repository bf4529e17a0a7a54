-- Proofs of the program's functions. Assumes nothing.

pub mod Begun
pub mod Turning
