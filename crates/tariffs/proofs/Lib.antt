-- Laws of the charge, and the proofs of the functions. Assumes nothing.

pub mod Allowing
pub mod Charges
