-- What the contracts of `report_line` cite.
pub mod Line
pub mod Promise
