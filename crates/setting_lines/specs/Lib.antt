-- What the printer of settings promises. Assumes nothing.
pub mod Settings
