-- The home validator's calls and runs. Assumes nothing.

pub mod HomeCalls
