-- The definitions that contracts cite.
pub mod Bytes
pub mod Number
pub mod Split
pub mod Numeral
pub mod Digits
pub mod Milli
pub mod Value
pub mod Whole
pub mod Steps
