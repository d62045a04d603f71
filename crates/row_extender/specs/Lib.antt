-- A row that is extended. Assumes nothing.
pub mod Ready
