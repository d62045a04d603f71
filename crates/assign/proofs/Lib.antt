-- The laws that the proofs share, and what refusals 17 and 19 come to. Assumes nothing.
pub mod Bytes
pub mod Scanning
pub mod Refusal
pub mod Slots
