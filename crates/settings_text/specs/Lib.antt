-- What is printed of a table and of what stands behind it. Assumes nothing.
pub mod Replies
pub mod Uncut
