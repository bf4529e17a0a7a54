-- What the listing of a whole good journal is. Assumes nothing.

pub mod Whole
