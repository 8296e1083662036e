-- The laws of `report_text`.
pub mod Writings
