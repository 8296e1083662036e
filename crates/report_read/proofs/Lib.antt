-- The laws of `report_read`.
pub mod Feedings
