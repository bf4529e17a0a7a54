-- Laws of blocks: sizes, items, form and check. Assumes nothing.

pub mod Sizes
pub mod Items
pub mod Forming
pub mod Checking
