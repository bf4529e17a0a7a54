-- The records of a call's bytes, taken one after the other. Assumes nothing.

pub mod Handing
