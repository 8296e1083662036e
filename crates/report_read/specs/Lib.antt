-- What the contracts of `report_read` cite.
pub mod Answers
pub mod Promise
pub mod Inner
