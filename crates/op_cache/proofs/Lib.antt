-- The laws of the cache, lowest first.
pub mod Remembering
