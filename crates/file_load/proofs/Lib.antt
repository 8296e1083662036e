-- The laws of loading.
pub mod Loads
