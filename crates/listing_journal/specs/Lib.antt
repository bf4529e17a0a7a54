-- A turn of the program's loop. Assumes nothing.

pub mod Turns
