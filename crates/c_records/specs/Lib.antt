-- What the contracts of `c_records` cite.
pub mod Promise
