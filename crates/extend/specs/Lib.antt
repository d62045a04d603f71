-- Bits put into a model's bytes. Assumes nothing.
pub mod Bytes
pub mod Places
