-- The laws of `store_fresh`.
pub mod Freshly
