-- The pair validator over the words of its state. Assumes nothing.

pub mod Layout
pub mod Testing
