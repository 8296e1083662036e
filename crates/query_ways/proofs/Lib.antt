-- The laws of `query_ways`.
pub mod Worth
pub mod Handing
pub mod Going
