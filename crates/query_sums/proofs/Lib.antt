-- The laws of `query_sums`.
pub mod Keeping
pub mod Putting
pub mod Filling
