-- Laws of decimal and of hexadecimal digits. Assumes nothing.

pub mod Decimals
pub mod Digits
