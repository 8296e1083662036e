-- The laws of `report_log`.
pub mod Logs
