-- Laws of the rounds, of padded messages and of the digest. Assumes nothing.

pub mod Padding
pub mod Rounds
pub mod Digests
