-- The laws of `op_parity`.
pub mod Splits
pub mod Parting
pub mod Done
