-- The laws of the listing.
pub mod Puts
pub mod Decimals
pub mod Lines
pub mod Rooms
pub mod Splits
pub mod Large
pub mod Unique
