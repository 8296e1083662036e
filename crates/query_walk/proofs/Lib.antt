-- The laws of `query_walk`.
pub mod Sums
pub mod Listing
pub mod Walking
