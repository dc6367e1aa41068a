-- What the contracts of `desk` cite.
pub mod Answers
