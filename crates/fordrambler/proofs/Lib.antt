-- The laws of the library's calls: that an accepted table's records fit, and what the records then hold. Assumes nothing.
pub mod Fits
pub mod Leaving
