-- The laws of `query_parts`.
pub mod Chains
pub mod Tables
