-- What the contracts and the laws of `gate` cite.
pub mod Gates
