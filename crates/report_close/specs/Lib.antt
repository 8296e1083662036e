-- What the contracts of `report_close` cite.
pub mod Report
pub mod Promise
pub mod Inner
