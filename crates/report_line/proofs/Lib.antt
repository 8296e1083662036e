-- The laws of `report_line`.
pub mod States
