-- The block of a journal, and judging it. Assumes nothing.

pub mod Blocks
pub mod Kinds
pub mod Checked
