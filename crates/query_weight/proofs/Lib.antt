-- The laws of `query_weight`.
pub mod Agreeing
pub mod Walking
pub mod Answering
