-- Laws of the printer of settings. Assumes nothing.
pub mod Rows
pub mod Settings
