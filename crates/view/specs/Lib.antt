-- What the contracts of `view` cite.
pub mod Text
pub mod Listing
pub mod Puts
