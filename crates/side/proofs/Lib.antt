-- The laws of a side, its price and its moves, a file a subject.
pub mod Bits
pub mod Counts
pub mod Spares
pub mod Puts
pub mod Parting
pub mod Places
pub mod Alike
pub mod Refusals
pub mod Unread
pub mod Prices
pub mod Bytewise
pub mod Moves
pub mod Changes
pub mod Sides
