-- What the contracts and the promises of `side` cite.
pub mod Sides
pub mod Given
pub mod Prices
pub mod Moves
