-- The proof that every case of the desk's table holds.
pub mod Tests
pub mod Told
pub mod Bytes
pub mod Rounds
pub mod Calls
pub mod Passes
pub mod Listed
