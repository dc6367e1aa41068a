-- The laws of the C interface.
pub mod Places
pub mod Values
pub mod Unique
pub mod Gates
