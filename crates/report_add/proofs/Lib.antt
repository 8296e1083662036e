-- The laws of `report_add`.
pub mod Placings
pub mod Makings
