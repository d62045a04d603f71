-- That acceptance tells how many bits are declared. Assumes nothing.
pub mod Limits
