-- What the contracts of `report_tally` cite.
pub mod Log
pub mod Promise
