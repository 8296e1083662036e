-- The laws of `query_has`.
pub mod Descending
pub mod Asking
pub mod Above
