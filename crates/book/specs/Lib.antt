-- What the contracts of `book` cite.
pub mod First
pub mod Listed
pub mod Format
pub mod Steps
pub mod Checks
pub mod Answer
pub mod Sound
pub mod Cards
pub mod Marks
