-- What the contracts of `store_fresh` cite.
pub mod Promise
