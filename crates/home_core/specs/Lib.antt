-- The home validator over the words of its state. Assumes nothing.

pub mod Layout
