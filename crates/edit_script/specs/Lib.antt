-- The definitions of scripts.
pub mod Values
pub mod Forms
pub mod Script
