-- The laws of the split.
pub mod Fills
pub mod Loads
pub mod SameCard
pub mod Rows
pub mod Solves
pub mod Loaded
pub mod Held
pub mod Shorts
pub mod Answers
pub mod SameRows
pub mod Least
pub mod Unique
pub mod Accepted
pub mod Demands
pub mod TwoFlows
