-- A row that is ready to be written. Assumes nothing.
pub mod Ready
