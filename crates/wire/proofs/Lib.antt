-- Laws of bytes and numbers, each over every width. Assumes nothing.

pub mod Prelude
pub mod Lists
pub mod Numbers
