-- The lemmas of the exports.
mod Aborted
mod Reconnected
mod Unpreviewed
mod Writing
