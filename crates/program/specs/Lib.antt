-- The steps that both programs share. Assumes nothing.
pub mod Sheets
