-- The home validator's state and its calls. Assumes nothing.

pub mod State
pub mod Figures
