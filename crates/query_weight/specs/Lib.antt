-- What the contracts of `query_weight` cite.
pub mod Promise
pub mod Inner
