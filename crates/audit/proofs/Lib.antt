-- The laws of `audit`.
pub mod Numbers
pub mod Totals
pub mod Tallied
pub mod Lists
pub mod Fairness
pub mod Certificates
pub mod Unread
pub mod Answers
pub mod Flows
