-- The laws of `query_size_compact`.
pub mod Counting
pub mod Answering
pub mod Agreeing
