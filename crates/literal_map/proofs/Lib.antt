-- The literal map's rows read and written. Assumes nothing.
pub mod Copies
pub mod Reading
