-- Laws of the costs program's output. Assumes nothing.
pub mod Output
