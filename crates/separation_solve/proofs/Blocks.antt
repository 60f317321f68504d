-- Moving a block: what it does to places, flow and sums.
pub mod Members
pub mod BlockForce
pub mod Mean
pub mod Contacts
pub mod Moving
pub mod Descent
pub mod Shifted
