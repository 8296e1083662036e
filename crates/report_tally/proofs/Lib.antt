-- The laws of `report_tally`.
pub mod Openings
