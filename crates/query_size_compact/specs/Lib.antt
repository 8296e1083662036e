-- What the contracts of `query_size_compact` cite.
pub mod Promise
pub mod Inner
