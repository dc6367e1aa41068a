-- What the contracts of `split` cite.
pub mod Writes
pub mod Solved
pub mod Splits
pub mod Boards
pub mod Verdicts
