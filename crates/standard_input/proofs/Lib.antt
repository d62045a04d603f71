-- Laws of reads. Assumes nothing.
pub mod Held
pub mod Laws
