-- Laws of laying out a block. Assumes nothing.

pub mod Allowing
pub mod Laying
