-- What is claimed of the pair validator's calls holds. Assumes nothing.

pub mod PairClaimed
