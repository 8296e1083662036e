-- The laws of the two sides.
pub mod Splitting
pub mod Answers
