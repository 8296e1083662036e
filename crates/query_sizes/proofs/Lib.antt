-- The laws of `query_sizes`.
pub mod Summing
pub mod Brims
