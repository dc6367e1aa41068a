-- The laws of the climb, a file a subject.
pub mod Boards
pub mod Entries
pub mod Threads
pub mod Routes
