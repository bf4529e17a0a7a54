-- Laws of the home validator's runs. Assumes nothing.

pub mod Apart
pub mod Seen
