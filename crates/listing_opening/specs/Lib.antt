-- The first lines of a listing. Assumes nothing.

pub mod Opened
