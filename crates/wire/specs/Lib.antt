-- Numbers in bytes, and the parts of bytes. Assumes nothing.

pub mod BigEndian
