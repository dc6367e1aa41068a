pub mod Search
pub mod Cards
pub mod Push
pub mod Raise
pub mod Build
pub mod Board
pub mod Kinds
