-- The lemmas of replies.
pub mod ChangeTexts
pub mod Clients
pub mod Corners
pub mod Diagrams
pub mod Previews
pub mod Turns
