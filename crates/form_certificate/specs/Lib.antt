-- Certificates of a scene, made and audited.
pub mod Sizes
pub mod Proving
pub mod Auditing
