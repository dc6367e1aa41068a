-- What the contracts and the promises of `audit` cite.
pub mod Rules
pub mod Tallies
pub mod Checker
pub mod Certificate
pub mod Verdicts
