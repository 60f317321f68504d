-- The lemmas of replays.
pub mod Replying
pub mod Done
pub mod Origins
