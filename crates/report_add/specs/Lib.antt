-- What the contracts of `report_add` cite.
pub mod Promise
pub mod Inner
