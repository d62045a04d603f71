-- What the calls for C owe, and that no two outcomes meet it. Assumes nothing.
pub mod Told
pub mod Outcomes
