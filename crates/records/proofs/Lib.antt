-- Laws of reading and encoding. Assumes nothing.

pub mod Formed
pub mod Exactly
