-- The laws of a book.
pub mod Firsts
pub mod Elements
pub mod Pasted
pub mod Strides
pub mod Laid
pub mod Sound
pub mod CardLaws
pub mod Netlists
