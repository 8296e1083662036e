-- What the contracts of `query_has` cite.
pub mod Promise
pub mod Inner
