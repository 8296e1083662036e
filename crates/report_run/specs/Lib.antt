-- What the contracts of `report_run` cite.
pub mod Promise
pub mod Inner
