-- The lines of a listing, and hexadecimal digits. Assumes nothing.

pub mod Lines
pub mod Hex
