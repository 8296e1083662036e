-- The laws of `report_run`.
pub mod Reports
