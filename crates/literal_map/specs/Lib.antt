-- A row's cell as the literal map and its record have it, and as a writer leaves it. Assumes nothing.
pub mod Cells
pub mod Rows
