-- The laws of `report_close`.
pub mod Closings
pub mod Reports
pub mod Meanings
pub mod Growths
pub mod Grammar
