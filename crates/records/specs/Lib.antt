-- The record, and the bytes with its fields. Assumes nothing.

pub mod Records
pub mod Fields
