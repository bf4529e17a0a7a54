-- What is claimed of the listing of a whole journal holds. Assumes nothing.

pub mod Whole
