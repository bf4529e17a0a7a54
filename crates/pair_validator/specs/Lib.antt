-- The pair validator's state and its calls. Assumes nothing.

pub mod State
pub mod Figures
