-- What the contracts of `report_log` cite.
pub mod Log
pub mod Promise
pub mod Inner
