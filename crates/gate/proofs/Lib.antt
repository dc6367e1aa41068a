-- The laws of the gate.
pub mod Rounds
pub mod Exact
pub mod Shares
pub mod Areas
pub mod Unique
pub mod Examples
