-- The digest, and sixteen words at a time. Assumes nothing.

pub mod Sha256
pub mod Sixteen
