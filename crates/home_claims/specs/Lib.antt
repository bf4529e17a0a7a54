-- What is promised of every run of the home validator. Assumes nothing.

pub mod Claims
