-- What is promised of every run of the pair validator. Assumes nothing.

pub mod Claims
