-- What the library's exports hand back. Assumes nothing.

pub mod Plain
