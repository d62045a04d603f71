-- Laws of the settings program's output. Assumes nothing.
pub mod Taking
pub mod Behind
pub mod Claims
pub mod Settled
pub mod Values
pub mod Uncut
