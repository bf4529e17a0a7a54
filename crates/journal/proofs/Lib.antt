-- The journal theorem and what it rests on. Assumes nothing.

pub mod Blocks
pub mod Items
pub mod ReadBack
