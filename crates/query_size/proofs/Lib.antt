-- The laws of `query_size`.
pub mod Agreeing
pub mod Answering
