-- The laws of decoding. Assumes nothing.
pub mod Chain
pub mod Deciding
pub mod Rows
pub mod Putting
