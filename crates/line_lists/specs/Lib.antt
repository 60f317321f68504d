-- The model of the lists of lines, what they are, and what they are while they are made.
pub mod Numbers
pub mod Lists
pub mod Rows
pub mod Columns
pub mod Parts
