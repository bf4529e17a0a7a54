-- What is claimed of the home validator's calls holds. Assumes nothing.

pub mod HomeClaimed
