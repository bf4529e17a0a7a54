-- A listing's text, chunk by chunk. Assumes nothing.

pub mod Cursors
