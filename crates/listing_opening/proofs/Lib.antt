-- Laws of the first lines of a listing. Assumes nothing.

pub mod OpeningText
