-- Lemmas on certificates.
pub mod OneAnswer
