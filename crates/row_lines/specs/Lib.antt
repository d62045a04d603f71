-- What the printers of rows promise. Assumes nothing.
pub mod Numbers
