-- The pages of the walk: what it is, and what its call answers and writes.
pub mod Walk
pub mod Call
pub mod Parts
pub mod Work
pub mod Runs
pub mod Answer
