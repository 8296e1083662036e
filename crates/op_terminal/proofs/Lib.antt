-- The laws of the terminal cases.
pub mod Restricting
pub mod Orders
