-- Laws of judging a block. Assumes nothing.

pub mod Judging
