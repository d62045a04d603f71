-- What the room for an unknown tells. Assumes nothing.
pub mod Limits
