-- The definitions that contracts cite, and those of private parts.
pub mod Sum
pub mod Apart
pub mod Arena
pub mod Bundle
pub mod Gap
pub mod Least
pub mod Certified
pub mod Rounded
pub mod Latest
pub mod Chains
pub mod Padded
pub mod Checked
