-- Laws of the clause program's output. Assumes nothing.
pub mod Output
