-- The lemmas on paths that routes share, callees first.
pub mod Rays
pub mod AlongPaths
pub mod AllPaths
pub mod Counting
