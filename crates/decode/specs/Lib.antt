-- What decoding answers, and what it reads the settings of. Assumes nothing.
pub mod Tried
pub mod Written
