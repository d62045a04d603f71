-- The laws of writing a table. Assumes nothing.
pub mod Fitted
pub mod Units
