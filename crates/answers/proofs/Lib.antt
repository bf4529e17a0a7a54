-- Laws of refusals and of answers. Assumes nothing.

pub mod Refusals
pub mod Answers
