-- Laws of masks, digests and chains, and the proofs of the functions. Assumes nothing.

pub mod Masks
pub mod Telling
pub mod Judging
pub mod Chains
