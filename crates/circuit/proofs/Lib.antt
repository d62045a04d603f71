-- Examples, then the laws of gates and circuits: what they mean, then what they count. Assumes nothing.
pub mod Gates
pub mod Wellformed
pub mod Assignments
pub mod Meaning
pub mod Adding
pub mod Multiplying
pub mod Comparing
pub mod Choosing
pub mod Reading
pub mod Exact
pub mod Bounds
pub mod Costs
pub mod Lengths
