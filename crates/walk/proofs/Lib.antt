-- The laws of the walk.
pub mod Rounds
pub mod One
pub mod Prices
pub mod Found
pub mod Loop
pub mod Plain
pub mod Call
pub mod Books
pub mod Cuts
pub mod Marks
pub mod Bytes
pub mod Steps
pub mod Runs
pub mod Ended
pub mod Whole
